use Rattle.std.proofs.Common.{◌≡◌, map}
use Rattle.cc_definitions.specs.Definitions.{numbers_below}
use Rattle.cc_link.specs.Kept.{id_told}
use Rattle.cc_link.proofs.tables.ids.Given as goal

abbrev pub invariant-loop-number : goal.invariant-loop-number
invariant-loop-number l = l.ids.items ≡ map (id_told l.devices l.functions l.objects) (numbers_below l.number)
