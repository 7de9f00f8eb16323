use Rattle.cc_rules_asked.specs.CcRulesNeeds.Flowing.{numbers}
use Rattle.cc_rules_asked.specs.CcRulesNeeds.Needs.{HasAll}
use Rattle.cc_rules_lacking.proofs.Firsts.{row}
use Rattle.cc_rules_lacking.proofs.apart.first_apart.Given as goal
use Rattle.cc_rules_asked.specs.CcStateFacts.Facts.{has_pair}
use Rattle.std.specs.List.{flat_map}

abbrev pub invariant-loop-register : goal.invariant-loop-register
invariant-loop-register g l = HasAll g.I.Lattice.IsBelow (flat_map (row g.I.Lattice.IsBelow l.facts l.point (has_pair l.flow) l.cells) (numbers 0 l.register)) l.facts
