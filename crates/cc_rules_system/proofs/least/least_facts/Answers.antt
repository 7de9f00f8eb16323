use Rattle.cc_rules_asked.proofs.CcSyntax.NameRules.{sound-typed}
use Rattle.cc_rules_system.proofs.least.least_facts.Goals as goal

pub count_facts-requires-clause-typed : goal.count_facts-requires-clause-typed
count_facts-requires-clause-typed g c = sound-typed c.args.p.now c.requires.normal.sound

pub returns-in-Ok-solved-clause-covers : goal.returns-in-Ok-solved-clause-covers
returns-in-Ok-solved-clause-covers g c =
    let kept = c.in-Ok-solved.ensures in
    c.solutions.ensures.covers c.args.p.now c.requires.normal c.requires.few_points c.in-Ok-solved.facts kept.shape kept.solution
