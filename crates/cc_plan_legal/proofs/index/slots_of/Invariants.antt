use Rattle.std.proofs.Common.{◌≡◌, ◌++◌, length}
use Rattle.cc_plan_legal.specs.Plans.{slots_of}
use Rattle.cc_plan_legal.proofs.index.slots_of.Given as goal

abbrev pub invariant-loop-left : goal.invariant-loop-left
invariant-loop-left l = l.slots.items ++ slots_of l.left ≡ slots_of l.fields

abbrev pub decreases-loop-left : goal.decreases-loop-left
decreases-loop-left l = length l.left
