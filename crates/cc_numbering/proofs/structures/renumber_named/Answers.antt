use Rattle.std.proofs.Common.{◌∙◌, [], ◌∷◌, ◌++◌, map, take, ap, sym}
use Rattle.std.proofs.lemmas.List.{map-append, take_more}
use Rattle.cc_numbering.specs.Structures.{named_in}
use Rattle.cc_numbering.proofs.structures.renumber_named.Goals as goal

pub loop-one-preserved : goal.loop-one-preserved
loop-one-preserved c =
    let f = named_in c.args.numbers.now in
    let named = c.args.named.now in
    let i = c.loop-one.one-index in
    let x = c.one-item.result in
    c.in_ok-push.ensures.items
    ∙ (ap (λ v. c.loop-one.renumbered.items ++ v ∷ []) c.in_ok-renumber_one.ensures
    ∙ (ap (λ l. l ++ f x ∷ []) c.loop-one.invariant
    ∙ (sym (map-append f (take i named) (x ∷ []))
    ∙ ap (map f) (ap (λ y. take i named ++ y ∷ []) c.one-item.is ∙ sym (take_more named i x c.loop-one-test.true)))))
