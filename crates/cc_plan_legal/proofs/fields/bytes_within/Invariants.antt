use Rattle.std.proofs.Common.{◌≡◌, ◌+◌, ◌≤◌, length}
use Rattle.cc_plan_legal.specs.Legality.{bytes_in}
use Rattle.cc_plan_legal.proofs.fields.bytes_within.Given as goal

abbrev pub invariant-loop-left : goal.invariant-loop-left
invariant-loop-left l = record {
  few : l.bytes ≤ l.most;
  sum : bytes_in l.slots l.word l.fn.fields ≡ l.bytes + bytes_in l.slots l.word l.left;
}

abbrev pub decreases-loop-left : goal.decreases-loop-left
decreases-loop-left l = length l.left
