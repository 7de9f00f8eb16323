use Rattle.std.proofs.Common.{◌≡◌, ◌+◌, length}
use Rattle.cc_plan_legal.specs.Plans.{are_used}
use Rattle.cc_plan_legal.proofs.plans.are_used.Given as goal

abbrev pub invariant-loop-left : goal.invariant-loop-left
invariant-loop-left l = record {
  number : l.number + length l.left ≡ length l.words;
  same : are_used 0 l.words l.fields ≡ are_used l.number l.left l.fields;
}

abbrev pub decreases-loop-left : goal.decreases-loop-left
decreases-loop-left l = length l.left
