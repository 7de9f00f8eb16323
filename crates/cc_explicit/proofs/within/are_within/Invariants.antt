-- What is left decides as the whole lists do.
use Rattle.std.proofs.Common.{◌≡◌, length}
use Rattle.cc_explicit.proofs.Walk.{walk}
use Rattle.cc_explicit.proofs.within.are_within.Given as goal

abbrev pub invariant-loop-left : goal.invariant-loop-left
invariant-loop-left l = walk l.left l.right ≡ walk l.fn.members l.fn.others

abbrev pub decreases-loop-left : goal.decreases-loop-left
decreases-loop-left l = length l.right
