use Rattle.cc_numbering.proofs.Places.{Entered}
use Rattle.cc_numbering.proofs.numbers.places.Given as goal

abbrev pub invariant-loop-left : goal.invariant-loop-left
invariant-loop-left l = Entered l.places.items l.order l.left l.count

abbrev pub decreases-loop-left : goal.decreases-loop-left
decreases-loop-left l = l.left
