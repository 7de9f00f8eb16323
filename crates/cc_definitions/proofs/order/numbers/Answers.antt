use Rattle.std.proofs.Common.{◌∙◌, map, ap}
use Rattle.std.proofs.lemmas.List.{take_all}
use Rattle.cc_order.specs.declared.place.Place.{Place}
use Rattle.cc_definitions.proofs.order.numbers.Goals as goal

pub loop-place-init : goal.loop-place-init
loop-place-init c = c.new-numbers.ensures.items

pub returns : goal.returns
returns c = c.loop-place.invariant ∙ ap (map (λ (p : Place). p.number)) (take_all c.loop-place.place-index c.args.places.now c.loop-place-test.false)
