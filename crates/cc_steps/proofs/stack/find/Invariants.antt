use Rattle.std.proofs.Common.{◌≤◌, length, drop}
use Rattle.cc_steps.specs.View.{NoneHas}
use Rattle.cc_steps.proofs.stack.find.Given as goal

abbrev pub invariant-loop-i : goal.invariant-loop-i
invariant-loop-i l = (l.i ≤ length l.stack) × NoneHas l.number (drop l.i l.stack)

abbrev pub decreases-loop-i : goal.decreases-loop-i
decreases-loop-i l = l.i
