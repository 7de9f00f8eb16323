use Rattle.std.proofs.Common.{◌≡◌, map, take}
use Rattle.cc_program.specs.declared.value.Value.TheVariants as value
use Rattle.cases_domains.proofs.codes.numbers.Given as goal

abbrev pub invariant-loop-n : goal.invariant-loop-n
invariant-loop-n l = l.list.items ≡ map value.Int (take l.n-index l.members)
