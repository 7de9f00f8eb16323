use Rattle.std.proofs.Common.{◌≡◌}
use Rattle.cc_definitions.proofs.Numbered.{places_at}
use Rattle.cc_definitions.proofs.order.places.Given as goal

abbrev pub invariant-loop-t : goal.invariant-loop-t
invariant-loop-t l = record {
  at : l.number ≡ l.t-index;
  done : l.places.items ≡ places_at l.things l.t-index;
}
