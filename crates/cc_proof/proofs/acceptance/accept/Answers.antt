use Rattle.cc_proof.proofs.acceptance.accept.Goals as goal

pub covered-requires : goal.covered-requires
covered-requires g c =
    let solution = rw c.in-Ok-None.field-0-is at c.in-Ok-None.ensures in
    record {
      limits = c.requires.limits;
      shape = c.requires.shape;
      covers = c.solutions.ensures.covers c.args.p.now c.requires.limits.normal c.requires.limits.few_points c.args.facts c.requires.shape solution;
    }

pub returns-clause-covers : goal.returns-clause-covers
returns-clause-covers g c =
    let solution = rw c.in-Ok-None.field-0-is at c.in-Ok-None.ensures in
    c.solutions.ensures.covers c.args.p.now c.requires.limits.normal c.requires.limits.few_points c.args.facts c.requires.shape solution
