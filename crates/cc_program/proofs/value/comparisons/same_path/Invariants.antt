use Rattle.std.proofs.Common.{◌≡◌, length, take}
use Rattle.cc_program.proofs.value.comparisons.same_path.Given as goal

abbrev pub invariant-loop-i : goal.invariant-loop-i
invariant-loop-i l = (length l.part-items ≡ length l.others) × (take l.i l.part-items ≡ take l.i l.others)
