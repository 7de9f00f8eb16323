use Rattle.cc_layout.proofs.SeatLemmas.{Ends}
use Rattle.cc_layout.proofs.seats.ram.Given as goal

abbrev pub invariant-loop-object : goal.invariant-loop-object
invariant-loop-object l = Ends l.p l.object-index l.end
