use Rattle.std.proofs.Common.{◌≡◌, ◌++◌}
use Rattle.cc_names.specs.Names.{numbers_from}
use Rattle.cc_lower_numbers.proofs.order.with_all.Given as goal

abbrev pub invariant-loop-number : goal.invariant-loop-number
invariant-loop-number l = l.numbers.items ≡ l.initial.numbers.items ++ numbers_from 0 l.number
