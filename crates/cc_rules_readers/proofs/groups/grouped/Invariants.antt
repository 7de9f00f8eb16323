use Rattle.std.proofs.Common.{◌≡◌, ℕ, slice_get}
use Rattle.std.specs.List.{filter}
use Rattle.cc_rules_asked.specs.CcRulesNeeds.Flowing.{numbers}
use Rattle.cc_rules_readers.specs.Points.{on, group_of, is_that, list_at}
use Rattle.cc_rules_readers.proofs.groups.grouped.Given as goal

abbrev pub invariant-loop-point : goal.invariant-loop-point
invariant-loop-point l = (b : ℕ) → list_at l.lists.items b ≡ filter (λ n. on (λ deed. is_that (group_of l.by deed) b) (slice_get l.deeds n)) (numbers 0 l.point)
