use Rattle.std.proofs.Common.{◌≡◌, ◌≤◌, take}
use Rattle.cc_lower_numbers.proofs.locals.first_locals.Given as goal

abbrev pub invariant-loop-local : goal.invariant-loop-local
invariant-loop-local l = record { here : l.out.items ≡ take l.local-index l.locals; within : l.local-index ≤ l.count }
