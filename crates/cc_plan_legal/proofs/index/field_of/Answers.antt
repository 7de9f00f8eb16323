use Rattle.std.proofs.Common.{◌∙◌, ℕ, List, Some, ◌≡◌, slice_get, ap, sym}
use Rattle.cc_bins.specs.declared.types.Field.{Field}
use Rattle.cc_plan_legal.specs.Legality.{is_among}
use Rattle.cc_plan_legal.specs.Plans.{slots_of}
use Rattle.cc_plan_legal.proofs.IndexLemmas.{no_field, found_field}
use Rattle.cc_plan_legal.proofs.index.field_of.Goals as goal

pub returns-in-Err : goal.returns-in-Err
returns-in-Err c = sym (no_field c.args.plan.now.fields c.args.slot (ap (λ (slots : List ℕ). is_among slots c.args.slot) (sym (c.all.ensures ∙ c.requires.slots)) ∙ c.in-Err.ensures))

pub returns-in-None : goal.returns-in-None
returns-in-None c =
    let there : slice_get (slots_of c.args.plan.now.fields) c.in-Ok.place ≡ Some c.args.slot = ap (λ (slots : List ℕ). slice_get slots c.in-Ok.place) (sym (c.all.ensures ∙ c.requires.slots)) ∙ c.in-Ok.ensures in
    c.in-None.ensures ∙ ap (λ (fields : List Field). slice_get fields c.in-Ok.place) c.all-in-Ok.ensures ∙ found_field c.args.plan.now.fields c.args.slot c.in-Ok.place c.args.plan.now.fields_ascend there

pub returns-in-Some : goal.returns-in-Some
returns-in-Some c =
    let there : slice_get (slots_of c.args.plan.now.fields) c.in-Ok.place ≡ Some c.args.slot = ap (λ (slots : List ℕ). slice_get slots c.in-Ok.place) (sym (c.all.ensures ∙ c.requires.slots)) ∙ c.in-Ok.ensures in
    c.in-Some.ensures ∙ ap (λ (fields : List Field). slice_get fields c.in-Ok.place) c.all-in-Ok.ensures ∙ found_field c.args.plan.now.fields c.args.slot c.in-Ok.place c.args.plan.now.fields_ascend there
