use Rattle.std.proofs.Common.{◌≡◌, map, take}
use Rattle.cc_rules_raised.specs.OfAddresses.{local_addresses}
use Rattle.cc_rules_raised.proofs.completed.kinds_of_locals.Given as goal

abbrev pub invariant-loop-local : goal.invariant-loop-local
invariant-loop-local l = l.kinds.items ≡ map (local_addresses l.f) (take l.local-index l.locals)
