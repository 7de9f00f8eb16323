use Rattle.std.proofs.Common.{◌≡◌, map, take}
use Rattle.cc_rules_raised.specs.OfAddresses.{is_set_of_addresses}
use Rattle.cc_rules_raised.proofs.completed.kinds_of_sets.Given as goal

abbrev pub invariant-loop-set : goal.invariant-loop-set
invariant-loop-set g l = l.kinds.items ≡ map is_set_of_addresses (take l.set-index l.sets)
