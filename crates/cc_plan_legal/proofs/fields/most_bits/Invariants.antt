use Rattle.std.proofs.Common.{◌≡◌, length}
use Rattle.cc_plan_legal.specs.Legality.{most_bits}
use Rattle.cc_plan_legal.proofs.fields.most_bits.Given as goal

abbrev pub invariant-loop-left : goal.invariant-loop-left
invariant-loop-left l = most_bits l.slots l.word 0 l.fn.fields ≡ most_bits l.slots l.word l.most l.left

abbrev pub decreases-loop-left : goal.decreases-loop-left
decreases-loop-left l = length l.left
