use Rattle.std.proofs.Common.{◌≡◌, ◌++◌, drop}
use Rattle.cc_numbering.proofs.Order.{open_from}
use Rattle.cc_numbering.proofs.numbers.order.Given as goal

abbrev pub invariant-loop-i : goal.invariant-loop-i
invariant-loop-i l = l.order.items ++ open_from l.i (drop l.i l.standings) ≡ open_from 0 l.standings
