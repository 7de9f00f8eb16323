use Rattle.std.proofs.Common.{map}
use Rattle.cc_rules_asked.specs.CcRulesNeeds.Flowing.{of_fact, need_cell, numbers}
use Rattle.cc_rules_asked.specs.CcRulesNeeds.Needs.{HasAll}
use Rattle.cc_rules_lacking.proofs.sets.first_cell.Given as goal

abbrev pub invariant-loop-cell : goal.invariant-loop-cell
invariant-loop-cell g l = HasAll g.I.Lattice.IsBelow (map (need_cell l.point (of_fact l.flow)) (numbers 0 l.cell)) l.facts
