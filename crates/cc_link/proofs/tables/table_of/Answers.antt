use Rattle.std.proofs.Common.{◌≡◌, ◌∙◌, length, map, None, ap, sym}
use Rattle.std.proofs.lemmas.List.{length-map}
use Rattle.std.specs.Prelude.{filter, nat_eq, not, position, slice_index_or}
use Rattle.cc_definitions.specs.Definitions.{functions, objects, is_function, thing_at}
use Rattle.cc_link.proofs.Positions.{ids_told}
use Rattle.cc_link.specs.Kept.{id_or_none}
use Rattle.cc_things.specs.View.{thing_view}
use Rattle.cc_link.proofs.tables.table_of.Goals as goal

pub returns-clause-ids : goal.returns-clause-ids
returns-clause-ids c = λ k.
    let ts = map thing_view c.args.things.now in
    let of_functions : c.in_ok-kinds.kinds.functions.items ≡ functions ts =
    c.in_ok-kinds.ensures.functions ∙ ap (filter (λ j. is_function (thing_at ts j))) (c.as_slice.ensures.value ∙ c.in_ok-defined.ensures) in
    let of_objects : c.in_ok-kinds.kinds.objects.items ≡ objects ts =
    c.in_ok-kinds.ensures.objects ∙ ap (filter (λ j. not (is_function (thing_at ts j)))) (c.as_slice.ensures.value ∙ c.in_ok-defined.ensures) in
    ap (λ l. id_or_none l k) c.in_ok-ids.ensures
    ∙ ids_told ts (length c.args.things.now) c.as_slice-5.result.now c.as_slice-6.result.now c.as_slice-7.result.now
    (sym (length-map c.args.things.now thing_view))
    (λ j h.
    ap (λ l. slice_index_or l j None) c.as_slice-5.ensures.value
    ∙ (c.in_ok-of_devices.ensures.positions j h ∙ ap (position (nat_eq j)) (c.as_slice-2.ensures.value ∙ c.in_ok-devices.ensures)))
    (λ j h.
    ap (λ l. slice_index_or l j None) c.as_slice-6.ensures.value
    ∙ (c.in_ok-of_functions.ensures.positions j h ∙ ap (position (nat_eq j)) (c.as_slice-3.ensures.value ∙ of_functions)))
    (λ j h.
    ap (λ l. slice_index_or l j None) c.as_slice-7.ensures.value
    ∙ (c.in_ok-of_objects.ensures.positions j h ∙ ap (position (nat_eq j)) (c.as_slice-4.ensures.value ∙ of_objects)))
    k
