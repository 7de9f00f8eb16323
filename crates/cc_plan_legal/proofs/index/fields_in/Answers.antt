use Rattle.std.proofs.Common.{◌∙◌, List, slice_get, ap}
use Rattle.cc_plan_legal.specs.declared.groups.Group.{Group}
use Rattle.cc_plan_legal.specs.Lookup.{in_word}
use Rattle.cc_plan_legal.proofs.GroupLemmas.{groups_are}
use Rattle.cc_plan_legal.proofs.IndexLemmas.{same_fields, not_there}
use Rattle.cc_plan_legal.proofs.index.fields_in.Goals as goal

pub returns-in-Some : goal.returns-in-Some
returns-in-Some c = λ l.
    let p = c.args.plan.now in
    let e = c.in-Some.ensures ∙ ap (λ (groups : List Group). slice_get groups c.args.word) (c.all.ensures ∙ c.requires.groups) ∙ groups_are p.words p.fields c.args.word l in
    c.all-in-Some.ensures ∙ same_fields c.in-Some.group.now (record { fields = in_word c.args.word p.fields }) e

pub returns-in-None : goal.returns-in-None
returns-in-None c = λ l.
    let p = c.args.plan.now in
    absurd
    (not_there (record { fields = in_word c.args.word p.fields })
    (c.in-None.ensures ∙ ap (λ (groups : List Group). slice_get groups c.args.word) (c.all.ensures ∙ c.requires.groups) ∙ groups_are p.words p.fields c.args.word l))
