use Rattle.std.proofs.Common.{◌≡◌, length}
use Rattle.cc_plan_legal.specs.Plans.{ascends_from}
use Rattle.cc_plan_legal.proofs.plans.ascend.Given as goal

abbrev pub invariant-loop-left : goal.invariant-loop-left
invariant-loop-left l = ascends_from 0 l.fn.numbers ≡ ascends_from l.least l.left

abbrev pub decreases-loop-left : goal.decreases-loop-left
decreases-loop-left l = length l.left
