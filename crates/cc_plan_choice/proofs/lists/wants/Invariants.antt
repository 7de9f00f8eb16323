use Rattle.std.proofs.Common.{◌≡◌, ◌+◌, ◌++◌, length}
use Rattle.cc_plan_choice.specs.Fates.{wants_from}
use Rattle.cc_plan_choice.proofs.lists.wants.Given as goal

abbrev pub invariant-loop-left : goal.invariant-loop-left
invariant-loop-left l = record {
  number : l.number + length l.left ≡ length l.slots;
  wanted : l.wanted.items ++ wants_from l.taken l.number l.left ≡ wants_from l.taken 0 l.slots;
}

abbrev pub decreases-loop-left : goal.decreases-loop-left
decreases-loop-left l = length l.left
