use Rattle.std.proofs.Common.{◌++◌, map, subst}
use Rattle.std.specs.List.{flat_map}
use Rattle.std.proofs.lemmas.Result.{IfOk-weaker}
use Rattle.cc_rules_lacking.proofs.Firsts.{behind}
use Rattle.cc_rules_lacking.proofs.points.lacking_of_sets.Goals as goal
use Rattle.cc_rules_lacking.specs.First.{LacksFirst}
use Rattle.cc_rules_asked.specs.CcRulesNeeds.Flowing.{of_fact, each_pair, need_apart, need_cell, need_local, numbers}
use Rattle.cc_rules_asked.specs.CcStateFacts.Facts.{has_pair}

pub returns-in-None : goal.returns-in-None
returns-in-None g c =
    IfOk-weaker c.lacking_of_cells.result (λ lacking. LacksFirst g.I.Lattice.IsBelow (map (need_cell c.args.point (of_fact c.args.flow.now)) (numbers 0 c.args.cells) ++ flat_map (need_apart c.args.point (has_pair c.args.flow.now)) (each_pair c.args.registers c.args.cells)) c.args.facts.now lacking) _
    (λ lacking h. behind g.I.Lattice.IsBelow c.args.facts.now (map (need_local c.args.point (of_fact c.args.flow.now)) (numbers 0 c.args.registers))
    (map (need_cell c.args.point (of_fact c.args.flow.now)) (numbers 0 c.args.cells) ++ flat_map (need_apart c.args.point (has_pair c.args.flow.now)) (each_pair c.args.registers c.args.cells)) lacking
    (subst (LacksFirst g.I.Lattice.IsBelow (map (need_local c.args.point (of_fact c.args.flow.now)) (numbers 0 c.args.registers)) c.args.facts.now) c.in-None.is c.in_ok-first.ensures) h) c.lacking_of_cells.ensures
