-- Facts that fit are small.
use Rattle.cc_rules_system.proofs.system.ConstraintSystemSystem.room.Goals as goal

pub room-requires : goal.room-requires
room-requires g c =
    let r = c.requires.ready in
    c.laws.ensures.small c.args.self.now.rules.program.now c.args.facts.now (record { normal = r.normal; few_points = r.few_points; few_facts = r.few_facts }) c.requires.fitting.0 c.requires.fitting.1
