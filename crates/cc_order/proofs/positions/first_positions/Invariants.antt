use Rattle.std.proofs.Common.{◌≡◌, ◌<◌, ℕ, None, length, get_or, take}
use Rattle.std.specs.Prelude.{nat_eq, position}
use Rattle.cc_order.proofs.positions.first_positions.Given as goal

abbrev pub invariant-loop-number : goal.invariant-loop-number
invariant-loop-number l = record {
  count : length l.positions.items ≡ l.count;
  at : l.position ≡ l.number-index;
  told : (k : ℕ) → k < l.count → get_or l.positions.items k None ≡ position (nat_eq k) (take l.number-index l.numbers);
}
