-- The rest ascends exactly where all does.
use Rattle.std.proofs.Common.{◌≡◌, length}
use Rattle.cc_places.specs.Order.{ascends}
use Rattle.cc_places.proofs.listed.ascend.Given as goal

abbrev pub invariant-loop-left : goal.invariant-loop-left
invariant-loop-left l = ascends l.fn.members ≡ ascends l.left

abbrev pub decreases-loop-left : goal.decreases-loop-left
decreases-loop-left l = length l.left
