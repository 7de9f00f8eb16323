use Rattle.std.proofs.Common.{◌≡◌, ◌+◌, length}
use Rattle.cc_plan_legal.specs.Legality.{first_breach}
use Rattle.cc_plan_legal.proofs.legal.first_breach.Given as goal

abbrev pub invariant-loop-left : goal.invariant-loop-left
invariant-loop-left l = record {
  number : l.number + length l.left ≡ length l.slots;
  same : first_breach l.slots l.plan 0 l.slots ≡ first_breach l.slots l.plan l.number l.left;
}

abbrev pub decreases-loop-left : goal.decreases-loop-left
decreases-loop-left l = length l.left
