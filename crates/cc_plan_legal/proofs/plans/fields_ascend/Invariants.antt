use Rattle.std.proofs.Common.{◌≡◌, length}
use Rattle.cc_plan_legal.specs.Plans.{ascends_from, slots_of}
use Rattle.cc_plan_legal.proofs.plans.fields_ascend.Given as goal

abbrev pub invariant-loop-left : goal.invariant-loop-left
invariant-loop-left l = ascends_from 0 (slots_of l.fn.fields) ≡ ascends_from l.least (slots_of l.left)

abbrev pub decreases-loop-left : goal.decreases-loop-left
decreases-loop-left l = length l.left
