use Rattle.std.proofs.Common.{◌≡◌, map, take}
use Rattle.cc_definitions.proofs.order.numbers.Given as goal

abbrev pub invariant-loop-place : goal.invariant-loop-place
invariant-loop-place l = l.numbers.items ≡ map (λ p. p.number) (take l.place-index l.places)
