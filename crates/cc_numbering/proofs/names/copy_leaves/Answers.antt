use Rattle.std.proofs.Common.{◌∙◌, [], ◌∷◌, ◌++◌, take, ap, sym}
use Rattle.std.proofs.lemmas.List.{take_more}
use Rattle.cc_numbering.proofs.names.copy_leaves.Goals as goal

pub loop-leaf-preserved : goal.loop-leaf-preserved
loop-leaf-preserved c =
    let leaves = c.args.leaves.now in
    let i = c.loop-leaf.leaf-index in
    let x = c.leaf-item.result in
    c.in_ok-push.ensures.items
    ∙ (ap (λ v. c.loop-leaf.copies.items ++ v ∷ []) c.in_ok-copy.ensures
    ∙ (ap (λ l. l ++ x ∷ []) c.loop-leaf.invariant
    ∙ (ap (λ y. take i leaves ++ y ∷ []) c.leaf-item.is ∙ sym (take_more leaves i x c.loop-leaf-test.true))))
