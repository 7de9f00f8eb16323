use Rattle.std.proofs.Common.{◌∙◌, [], ◌∷◌, ◌++◌, map, take, ap, sym}
use Rattle.std.proofs.lemmas.List.{map-append, take_more}
use Rattle.cc_unit.specs.Renumbered.{leaf_renumbered}
use Rattle.cc_relocation.proofs.parts.relocated_leaves.Goals as goal

pub loop-leaf-preserved : goal.loop-leaf-preserved
loop-leaf-preserved c =
    let f = leaf_renumbered c.args.ids.now in
    let leaves = c.args.init.now in
    let i = c.loop-leaf.leaf-index in
    let x = c.leaf-item.result in
    c.in_ok-push.ensures.items
    ∙ (ap (λ v. c.loop-leaf.relocated.items ++ v ∷ []) c.in_ok-renumber_leaf.ensures
    ∙ (ap (λ l. l ++ f x ∷ []) c.loop-leaf.invariant
    ∙ (sym (map-append f (take i leaves) (x ∷ []))
    ∙ ap (map f) (ap (λ y. take i leaves ++ y ∷ []) c.leaf-item.is ∙ sym (take_more leaves i x c.loop-leaf-test.true)))))
