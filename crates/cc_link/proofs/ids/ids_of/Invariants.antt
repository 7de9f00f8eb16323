use Rattle.std.proofs.Common.{◌≡◌, map, take}
use Rattle.cc_link.specs.Kept.{id_or_none}
use Rattle.cc_link.proofs.ids.ids_of.Given as goal

abbrev pub invariant-loop-number : goal.invariant-loop-number
invariant-loop-number l = l.ids.items ≡ map (λ k. id_or_none l.table k) (take l.number-index l.numbers)
