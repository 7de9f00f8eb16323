use Rattle.std.proofs.Common.{◌∷◌, [], ◌++◌, map, refl, sym, true≢false}
use Rattle.std.specs.List.{flat_map}
use Rattle.std.proofs.lemmas.Result.{IfOk-weaker}
use Rattle.cc_rules_lacking.proofs.Firsts.{behind, first_before, one_has, one_lacks}
use Rattle.cc_rules_lacking.proofs.points.lacking_at.Goals as goal
use Rattle.cc_rules_lacking.specs.First.{LacksFirst}
use Rattle.cc_rules_asked.specs.CcRulesNeeds.Flowing.{of_fact, each_pair, need_apart, need_cell, need_local, numbers}
use Rattle.cc_rules_asked.specs.CcRulesNeeds.declared.needs.Part.TheVariants.{Flags}
use Rattle.cc_rules_asked.specs.CcRulesNeeds.declared.needs.Slot.TheVariants.{Flag}
use Rattle.cc_rules_asked.specs.CcStateFacts.Facts.{has_pair}

pub returns-then-has_flag : goal.returns-then-has_flag
returns-then-has_flag g c =
    IfOk-weaker c.lacking_of_sets.result (λ lacking. LacksFirst g.I.Lattice.IsBelow (map (need_local c.args.point (of_fact c.args.flow.now)) (numbers 0 c.args.registers)
    ++ (map (need_cell c.args.point (of_fact c.args.flow.now)) (numbers 0 c.args.cells) ++ flat_map (need_apart c.args.point (has_pair c.args.flow.now)) (each_pair c.args.registers c.args.cells))) c.args.facts.now lacking) _
    (λ lacking h. behind g.I.Lattice.IsBelow c.args.facts.now ((Flag c.args.point, Flags c.args.flow.now.off c.args.flow.now.on) ∷ [])
    (map (need_local c.args.point (of_fact c.args.flow.now)) (numbers 0 c.args.registers) ++ (map (need_cell c.args.point (of_fact c.args.flow.now)) (numbers 0 c.args.cells) ++ flat_map (need_apart c.args.point (has_pair c.args.flow.now)) (each_pair c.args.registers c.args.cells))) lacking
    (one_has g.I.Lattice.IsBelow c.args.facts.now (Flag c.args.point, Flags c.args.flow.now.off c.args.flow.now.on) (c.if-has_flag.ensures.0 refl)) h) c.lacking_of_sets.ensures

pub returns-else-has_flag : goal.returns-else-has_flag
returns-else-has_flag g c =
    first_before g.I.Lattice.IsBelow c.args.facts.now ((Flag c.args.point, Flags c.args.flow.now.off c.args.flow.now.on) ∷ [])
    (map (need_local c.args.point (of_fact c.args.flow.now)) (numbers 0 c.args.registers) ++ (map (need_cell c.args.point (of_fact c.args.flow.now)) (numbers 0 c.args.cells) ++ flat_map (need_apart c.args.point (has_pair c.args.flow.now)) (each_pair c.args.registers c.args.cells)))
    (Flag c.args.point, Flags c.args.flow.now.off c.args.flow.now.on) (one_lacks g.I.Lattice.IsBelow c.args.facts.now (Flag c.args.point, Flags c.args.flow.now.off c.args.flow.now.on) (λ h. true≢false (sym (c.if-has_flag.ensures.1 h))))
