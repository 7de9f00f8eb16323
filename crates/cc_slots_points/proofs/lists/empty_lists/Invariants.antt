use Rattle.std.proofs.Common.{◌≡◌, ℕ, [], length}
use Rattle.cc_slots_accesses.specs.Puts.{of_number}
use Rattle.cc_slots_points.proofs.lists.empty_lists.Given as goal

abbrev pub invariant-loop-number : goal.invariant-loop-number
invariant-loop-number l = record { many : length l.lists.items ≡ l.number; empty : (n : ℕ) → of_number l.lists.items n ≡ [] }
