use Rattle.std.proofs.Common.{◌≡◌, length}
use Rattle.cc_plan_legal.specs.Legality.{first_overlapped}
use Rattle.cc_plan_legal.proofs.fields.first_overlapped.Given as goal

abbrev pub invariant-loop-left : goal.invariant-loop-left
invariant-loop-left l = first_overlapped l.slots l.fn.fields l.field ≡ first_overlapped l.slots l.left l.field

abbrev pub decreases-loop-left : goal.decreases-loop-left
decreases-loop-left l = length l.left
