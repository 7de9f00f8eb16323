use Rattle.std.proofs.Common.{◌≡◌, ◌∙◌, Option, ap, subst}
use Rattle.std.proofs.lemmas.Option.{unwrap_or-slice_get}
use Rattle.std.specs.Prelude.{IfOk, unwrap_or}
use Rattle.cc_link.specs.Linked.{ids_in, no_ids}
use Rattle.cc_relocation.specs.Relocated.{object_with}
use Rattle.cc_unit.specs.declared.ids.Ids.{Ids}
use Rattle.cc_link.proofs.parts.object_in.Goals as goal

pub returns-in-None : goal.returns-in-None
returns-in-None c =
    let m = c.args.m.now in
    let ids = ids_in c.args.ids.now m.text in
    subst (λ l. IfOk c.relocated_object.result (λ r. r ≡ object_with c.args.name ids m.name.now.ctype l)) c.leaves_in-init.ensures
    (subst (λ i. IfOk c.relocated_object.result (λ r. r ≡ object_with c.args.name i m.name.now.ctype c.leaves_in-init.result.now))
    (c.no_ids.ensures ∙ (ap (λ (o : Option Ids). unwrap_or o no_ids) c.in-None.ensures ∙ unwrap_or-slice_get c.args.ids.now m.text no_ids))
    c.relocated_object.ensures)

pub returns-in-Some : goal.returns-in-Some
returns-in-Some c =
    let m = c.args.m.now in
    let ids = ids_in c.args.ids.now m.text in
    subst (λ l. IfOk c.relocated_object-in-Some.result (λ r. r ≡ object_with c.args.name ids m.name.now.ctype l)) c.leaves_in-init.ensures
    (subst (λ i. IfOk c.relocated_object-in-Some.result (λ r. r ≡ object_with c.args.name i m.name.now.ctype c.leaves_in-init.result.now))
    (ap (λ (o : Option Ids). unwrap_or o no_ids) c.in-Some.ensures ∙ unwrap_or-slice_get c.args.ids.now m.text no_ids)
    c.relocated_object-in-Some.ensures)
