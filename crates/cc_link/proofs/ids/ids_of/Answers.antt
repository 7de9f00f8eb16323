use Rattle.std.proofs.Common.{◌∙◌, ◌++◌, [], ◌∷◌, get_or, map, take, ap, sym}
use Rattle.std.proofs.lemmas.List.{map-append, take_more}
use Rattle.cc_link.specs.Kept.{id_or_none}
use Rattle.cc_link.proofs.ids.ids_of.Goals as goal

pub loop-number-preserved : goal.loop-number-preserved
loop-number-preserved c =
    let told = id_or_none c.args.table.now in
    let numbers = c.args.numbers.now in
    let i = c.loop-number.number-index in
    let n = get_or numbers i 0 in
    c.in_ok-push.ensures.items
    ∙ (ap (λ v. c.loop-number.ids.items ++ v ∷ []) c.id_of.ensures
    ∙ (ap (λ l. l ++ told n ∷ []) c.loop-number.invariant
    ∙ (sym (map-append told (take i numbers) (n ∷ [])) ∙ ap (map told) (sym (take_more numbers i 0 c.loop-number-test.true)))))
