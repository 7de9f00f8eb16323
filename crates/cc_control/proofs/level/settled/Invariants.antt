use Rattle.std.proofs.Common.{◌≡◌, ◌++◌, length}
use Rattle.cc_control.specs.Control.{bodies}
use Rattle.cc_control.specs.View.{left_of}
use Rattle.cc_control.proofs.level.settled.Given as goal

abbrev pub invariant-loop-left : goal.invariant-loop-left
invariant-loop-left l = left_of l.left ≡ l.list ++ bodies l.cases

abbrev pub decreases-loop-left : goal.decreases-loop-left
decreases-loop-left l = length l.left.cases.now
