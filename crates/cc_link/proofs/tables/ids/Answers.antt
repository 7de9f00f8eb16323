use Rattle.std.proofs.Common.{arith, ◌≡◌, ◌∙◌, ◌+◌, ◌++◌, [], ◌∷◌, suc, map, ap, sym}
use Rattle.std.proofs.lemmas.List.{map-append}
use Rattle.cc_definitions.specs.Definitions.{numbers_below}
use Rattle.cc_link.specs.Kept.{id_told}
use Rattle.cc_link.specs.Linked.{id_by}
use Rattle.cc_link.proofs.tables.ids.Goals as goal

pub loop-number-preserved : goal.loop-number-preserved
loop-number-preserved c =
    let told = id_told c.args.devices.now c.args.functions.now c.args.objects.now in
    let n = c.loop-number.number in
    let id : c.id_by.result ≡ told n = c.id_by.ensures ∙ (λ j. id_by (c.position_at-device.ensures j) (c.position_at-function.ensures j) (c.position_at-object.ensures j)) in
    let next : suc n ≡ n + 1 = omega arith in
    c.in_ok-push.ensures.items
    ∙ (ap (λ v. c.loop-number.ids.items ++ v ∷ []) id
    ∙ (ap (λ l. l ++ told n ∷ []) c.loop-number.invariant
    ∙ (sym (map-append told (numbers_below n) (n ∷ [])) ∙ ap (λ k. map told (numbers_below k)) next)))
