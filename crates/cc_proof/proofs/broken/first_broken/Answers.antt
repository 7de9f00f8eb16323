use Rattle.std.proofs.Common.{Some, None, option_map, subst, ◌∙◌}
use Rattle.cc_proof.proofs.broken.first_broken.Goals as goal
use Rattle.cc_proof.proofs.Ready.{few_keys, few_locals, ready}
use Rattle.cc_rules_grow.specs.CcRules.Broken.{FirstBroken}
use Rattle.cc_rules_constraints.specs.Broken.{broken_view}
use Rattle.cc_rules_numbered.specs.Numbered.{constraint_view}
use Rattle.cc_rules_grow.specs.CcStateOperators.Domains.{domain}
use Rattle.cc_rules_grow.proofs.CcSyntax.NameRules.{sound-typed}

pub points_of-requires : goal.points_of-requires
points_of-requires g c = c.requires.limits.few_points

pub rules_of-requires : goal.rules_of-requires
rules_of-requires g c =
    let d = domain g.I.Concrete.Has g.I.Lattice.IsBelow g.I.IntDomain.OpGives g.I.IntDomain.OpOneGives g.I.IntDomain.ToGives g.I.IntDomain.KeepGives g.I.IntDomain.members_of in
    record {
      typed = sound-typed c.args.p.now c.requires.limits.normal.sound;
      flow = c.in_ok-flow.ensures;
      few = c.requires.limits.few_points;
      few_keys = few_keys d c.args.p.now c.args.facts.now c.requires.limits;
    }

pub first_broken-requires : goal.first_broken-requires
first_broken-requires g c =
    let d = domain g.I.Concrete.Has g.I.Lattice.IsBelow g.I.IntDomain.OpGives g.I.IntDomain.OpOneGives g.I.IntDomain.ToGives g.I.IntDomain.KeepGives g.I.IntDomain.members_of in
    let made = ready d c.args.p.now c.in_ok-rules.rules c.args.facts.now c.requires.limits c.requires.shape c.in_ok-rules.ensures in
    record { normal = made.normal; rules = made.own; shape = made.shape; few = made.few; few_keys = made.few_keys }

pub told-requires : goal.told-requires
told-requires g c = record {
  points = c.in_ok-flow.ensures;
  tracked = c.all.ensures ∙ c.in_ok-rules.ensures.tracked;
  few = few_locals c.args.p.now c.requires.limits.normal;
}

pub returns-in-None : goal.returns-in-None
returns-in-None g c =
    let d = domain g.I.Concrete.Has g.I.Lattice.IsBelow g.I.IntDomain.OpGives g.I.IntDomain.OpOneGives g.I.IntDomain.ToGives g.I.IntDomain.KeepGives g.I.IntDomain.members_of in
    subst (λ q. FirstBroken d q c.args.facts.now None) c.in_ok-rules.ensures.program
    (subst (λ b. FirstBroken d c.in_ok-rules.rules.program.now c.args.facts.now (option_map broken_view b)) c.in-None.is c.in_ok-found.ensures)

pub returns : goal.returns
returns g c =
    let d = domain g.I.Concrete.Has g.I.Lattice.IsBelow g.I.IntDomain.OpGives g.I.IntDomain.OpOneGives g.I.IntDomain.ToGives g.I.IntDomain.KeepGives g.I.IntDomain.members_of in
    let lacking = c.in-Some.lacking in
    record {
      constraint = constraint_view lacking.constraint;
      slot = lacking.slot;
      part = lacking.part;
      first = subst (λ q. FirstBroken d q c.args.facts.now (Some (broken_view lacking))) c.in_ok-rules.ensures.program
          (subst (λ b. FirstBroken d c.in_ok-rules.rules.program.now c.args.facts.now (option_map broken_view b)) c.in-Some.is c.in_ok-found.ensures);
      told = c.in_ok-told-in-Some.ensures;
    }
