use Rattle.std.proofs.Common.{◌≡◌, false, replicate}
use Rattle.cc_registers.proofs.marks.unmarked.Given as goal

abbrev pub invariant-loop-number : goal.invariant-loop-number
invariant-loop-number l = l.marks.items ≡ replicate l.number false
