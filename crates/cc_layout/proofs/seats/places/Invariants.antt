use Rattle.cc_layout.proofs.SeatLemmas.{Seated}
use Rattle.cc_layout.proofs.seats.places.Given as goal

abbrev pub invariant-loop-i : goal.invariant-loop-i
invariant-loop-i l = Seated l.p l.i l.end l.seats.items
