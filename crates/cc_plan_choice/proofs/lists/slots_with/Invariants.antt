use Rattle.std.proofs.Common.{◌≡◌, ◌+◌, ◌++◌, length}
use Rattle.cc_plan_choice.specs.Fates.{has_fate, numbers}
use Rattle.cc_plan_choice.proofs.lists.slots_with.Given as goal

abbrev pub invariant-loop-left : goal.invariant-loop-left
invariant-loop-left l = record {
  number : l.number + length l.left ≡ length l.slots;
  chosen :
      l.chosen.items ++ numbers (has_fate l.taken l.fielded l.fate) l.number l.left
      ≡ numbers (has_fate l.taken l.fielded l.fate) 0 l.slots;
}

abbrev pub decreases-loop-left : goal.decreases-loop-left
decreases-loop-left l = length l.left
