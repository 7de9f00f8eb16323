use Rattle.std.proofs.Common.{◌≡◌}
use Rattle.std.specs.List.{filter}
use Rattle.cc_rules_asked.specs.Unstable.{is_unstable_by, key_at}
use Rattle.cc_rules.specs.CcRulesNeeds.Flowing.{numbers}
use Rattle.cc_rules_asked.proofs.stability.unstable_cells.Given as goal

abbrev pub invariant-loop-cell : goal.invariant-loop-cell
invariant-loop-cell l = l.cells.items ≡ filter (λ j. is_unstable_by l.running l.writers (key_at l.keys j)) (numbers 0 l.cell)
