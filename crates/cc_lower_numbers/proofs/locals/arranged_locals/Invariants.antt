use Rattle.std.proofs.Common.{◌≡◌, take}
use Rattle.cc_lower_numbers.specs.Order.{arranged}
use Rattle.cc_lower_numbers.proofs.locals.arranged_locals.Given as goal

abbrev pub invariant-loop-number : goal.invariant-loop-number
invariant-loop-number l = l.out.items ≡ arranged l.locals (take l.number-index l.order)
