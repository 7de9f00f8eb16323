use Rattle.std.proofs.Common.{◌≡◌, map, take}
use Rattle.cc_program.specs.declared.value.Value.TheVariants as value
use Rattle.cases_domains.proofs.codes.addresses.Given as goal

abbrev pub invariant-loop-a : goal.invariant-loop-a
invariant-loop-a l = l.list.items ≡ map value.Place (take l.a-index l.members)
