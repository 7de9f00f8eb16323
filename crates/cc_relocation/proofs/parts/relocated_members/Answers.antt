use Rattle.std.proofs.Common.{◌∙◌, [], ◌∷◌, ◌++◌, map, take, ap, sym}
use Rattle.std.proofs.lemmas.List.{map-append, take_more}
use Rattle.cc_relocation.specs.Relocated.{member_with}
use Rattle.cc_relocation.proofs.parts.relocated_members.Goals as goal

pub loop-member-preserved : goal.loop-member-preserved
loop-member-preserved c =
    let f = member_with c.args.structures.now in
    let members = c.all-member-items.result.now in
    let i = c.loop-member.member-index in
    let x = c.member-item.result in
    c.in_ok-push.ensures.items
    ∙ (ap (λ v. c.loop-member.relocated.items ++ v ∷ []) c.in_ok-member.ensures
    ∙ (ap (λ l. l ++ f x ∷ []) c.loop-member.invariant
    ∙ (sym (map-append f (take i members) (x ∷ []))
    ∙ ap (map f) (ap (λ y. take i members ++ y ∷ []) c.member-item.is ∙ sym (take_more members i x c.loop-member-test.true)))))
