use Rattle.cc_rules_asked.specs.CcRulesNeeds.Flowing.{numbers}
use Rattle.cc_rules_asked.specs.CcRulesNeeds.Needs.{HasAll}
use Rattle.cc_rules_lacking.proofs.Firsts.{apart_from}
use Rattle.cc_rules_lacking.proofs.apart.first_cell.Given as goal
use Rattle.cc_rules_asked.specs.CcStateFacts.Facts.{has_pair}
use Rattle.std.specs.List.{flat_map}

abbrev pub invariant-loop-cell : goal.invariant-loop-cell
invariant-loop-cell g l = HasAll g.I.Lattice.IsBelow (flat_map (apart_from g.I.Lattice.IsBelow l.facts l.point (has_pair l.flow) l.register) (numbers 0 l.cell)) l.facts
