use Rattle.std.proofs.Common.{◌≡◌, false, replicate}
use Rattle.cc_lower_numbers.proofs.order.unseen.Given as goal

abbrev pub invariant-loop-number : goal.invariant-loop-number
invariant-loop-number l = l.marks.items ≡ replicate l.number false
