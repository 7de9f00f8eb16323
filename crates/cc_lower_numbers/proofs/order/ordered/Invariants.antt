use Rattle.std.proofs.Common.{◌≡◌, length, take}
use Rattle.std.specs.Prelude.{filter}
use Rattle.cc_lower_numbers.specs.Order.{is_within, firsts, AreSeen}
use Rattle.cc_lower_numbers.proofs.order.ordered.Given as goal

abbrev pub invariant-loop-number : goal.invariant-loop-number
invariant-loop-number l = record {
  marks : AreSeen l.seen.items l.order.items;
  bound : length l.seen.items ≡ l.end;
  done : l.order.items ≡ firsts (filter (is_within l.first l.end) (take l.number-index l.numbers));
}
