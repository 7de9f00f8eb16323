use Rattle.std.proofs.Common.{◌≡◌, ◌<◌, ℕ, length, Some}
use Rattle.std.specs.Prelude.{slice_get}
use Rattle.cc_lower_numbers.specs.Order.{place_in}
use Rattle.cc_lower_numbers.proofs.order.places.Given as goal

abbrev pub invariant-loop-number : goal.invariant-loop-number
invariant-loop-number l = record {
  bound : length l.places.items ≡ l.number;
  each : (i : ℕ) → i < l.number → slice_get l.places.items i ≡ Some (place_in l.first l.order i);
}
