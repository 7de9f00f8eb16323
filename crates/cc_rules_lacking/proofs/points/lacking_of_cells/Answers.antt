use Rattle.std.proofs.Common.{map, subst}
use Rattle.std.specs.List.{flat_map}
use Rattle.cc_rules_lacking.proofs.Firsts.{behind}
use Rattle.cc_rules_lacking.proofs.points.lacking_of_cells.Goals as goal
use Rattle.cc_rules_lacking.specs.First.{LacksFirst}
use Rattle.cc_rules_asked.specs.CcRulesNeeds.Flowing.{of_fact, each_pair, need_apart, need_cell, numbers}
use Rattle.cc_rules_asked.specs.CcStateFacts.Facts.{has_pair}

pub returns-in-None : goal.returns-in-None
returns-in-None g c =
    behind g.I.Lattice.IsBelow c.args.facts.now (map (need_cell c.args.point (of_fact c.args.flow.now)) (numbers 0 c.args.cells)) (flat_map (need_apart c.args.point (has_pair c.args.flow.now)) (each_pair c.args.registers c.args.cells)) c.lacking_apart.result
    (subst (LacksFirst g.I.Lattice.IsBelow (map (need_cell c.args.point (of_fact c.args.flow.now)) (numbers 0 c.args.cells)) c.args.facts.now) c.in-None.is c.in_ok-first.ensures) c.lacking_apart.ensures
