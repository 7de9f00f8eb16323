use Rattle.std.proofs.Common.{◌≡◌, ◌∙◌, Option, ap, subst}
use Rattle.std.proofs.lemmas.Option.{unwrap_or-slice_get}
use Rattle.std.specs.Prelude.{IfOk, unwrap_or}
use Rattle.cc_link.specs.Linked.{no_ids}
use Rattle.cc_relocation.specs.Relocated.{func_with}
use Rattle.cc_unit.specs.declared.ids.Ids.{Ids}
use Rattle.cc_link.proofs.parts.func_in.Goals as goal

pub returns-in-None : goal.returns-in-None
returns-in-None c =
    subst (λ i. IfOk c.relocated_func.result (λ r. r ≡ func_with c.args.name c.args.names.now c.args.entry i c.args.func.now))
    (c.no_ids.ensures ∙ (ap (λ (o : Option Ids). unwrap_or o no_ids) c.in-None.ensures ∙ unwrap_or-slice_get c.args.ids.now c.args.text no_ids))
    c.relocated_func.ensures

pub returns-in-Some : goal.returns-in-Some
returns-in-Some c =
    subst (λ i. IfOk c.relocated_func-in-Some.result (λ r. r ≡ func_with c.args.name c.args.names.now c.args.entry i c.args.func.now))
    (ap (λ (o : Option Ids). unwrap_or o no_ids) c.in-Some.ensures ∙ unwrap_or-slice_get c.args.ids.now c.args.text no_ids)
    c.relocated_func-in-Some.ensures
