use Rattle.std.proofs.Common.{◌∙◌, map, ap, sym}
use Rattle.cc_definitions.proofs.Numbered.{numbers_at}
use Rattle.cc_definitions.specs.Definitions.{is_defined_before, has_definition, numbers_of, place_at}
use Rattle.cc_order.proofs.Sorting.{map_in_order}
use Rattle.cc_order.specs.Order.{in_order}
use Rattle.cc_order.specs.Places.{stands_before}
use Rattle.cc_order.specs.declared.place.Place.{Place}
use Rattle.cc_things.specs.View.{thing_view}
use Rattle.cc_definitions.proofs.order.defined.Goals as goal

pub returns : goal.returns
returns c =
    let ts = map thing_view c.args.things.now in
    let ks = numbers_of has_definition ts in
    c.in_ok-numbers.ensures
    ∙ (ap (map (λ (p : Place). p.number)) (c.as_slice.ensures.value ∙ (c.in_ok-sort_places.ensures ∙ (ap (in_order stands_before) c.in_ok-found.ensures ∙ sym (map_in_order (place_at ts) stands_before ks))))
    ∙ numbers_at ts (in_order (is_defined_before ts) ks))
