use Rattle.std.proofs.Common.{◌≡◌, ◌+◌, ◌-◌, ℕ, vec_len}
use Rattle.cc_rules_readers.specs.Points.{list_at}
use Rattle.cc_rules_readers.proofs.groups.grow.Given as goal

abbrev pub invariant-loop-alloc : goal.invariant-loop-alloc
invariant-loop-alloc l = (b : ℕ) → list_at l.lists.items b ≡ list_at l.initial.lists.items b

abbrev pub decreases-loop-alloc : goal.decreases-loop-alloc
decreases-loop-alloc l = l.number + 1 - vec_len l.lists
