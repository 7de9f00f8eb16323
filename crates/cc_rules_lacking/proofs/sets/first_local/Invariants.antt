use Rattle.std.proofs.Common.{map}
use Rattle.cc_rules_asked.specs.CcRulesNeeds.Flowing.{of_fact, need_local, numbers}
use Rattle.cc_rules_asked.specs.CcRulesNeeds.Needs.{HasAll}
use Rattle.cc_rules_lacking.proofs.sets.first_local.Given as goal

abbrev pub invariant-loop-register : goal.invariant-loop-register
invariant-loop-register g l = HasAll g.I.Lattice.IsBelow (map (need_local l.point (of_fact l.flow)) (numbers 0 l.register)) l.facts
