use Rattle.std.proofs.Common.{◌∙◌, [], ◌∷◌, ◌++◌, map, take, ap, sym}
use Rattle.std.proofs.lemmas.List.{map-append, take_more}
use Rattle.cc_numbering.specs.Names.{name_in}
use Rattle.cc_numbering.proofs.names.names_in.Goals as goal

pub loop-d-preserved : goal.loop-d-preserved
loop-d-preserved c =
    let f = name_in c.args.ids.now in
    let names = c.args.names.now in
    let i = c.loop-d.d-index in
    let d = c.d-item.result in
    c.in_ok-push.ensures.items
    ∙ (ap (λ v. c.loop-d.renumbered.items ++ v ∷ []) c.in_ok-name_in.ensures
    ∙ (ap (λ l. l ++ f d ∷ []) c.loop-d.invariant
    ∙ (sym (map-append f (take i names) (d ∷ []))
    ∙ ap (map f) (ap (λ y. take i names ++ y ∷ []) c.d-item.is ∙ sym (take_more names i d c.loop-d-test.true)))))
