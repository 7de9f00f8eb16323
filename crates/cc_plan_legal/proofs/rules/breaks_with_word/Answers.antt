use Rattle.std.proofs.Common.{◌<◌, ◌∙◌, List, length, ap}
use Rattle.std.proofs.lemmas.Option.{slice_get_within}
use Rattle.cc_bins.specs.declared.types.Field.{Field}
use Rattle.cc_plan_legal.specs.Legality.{breaks_in_word}
use Rattle.cc_plan_legal.proofs.InWord.{breaks_same}
use Rattle.cc_plan_legal.proofs.rules.breaks_with_word.Goals as goal

pub returns : goal.returns
returns c =
    let slots = c.args.slots.now in
    let f = c.args.field.now in
    let l : f.word < length c.args.plan.now.words = slice_get_within c.args.plan.now.words f.word c.args.word.now c.requires.there in
    c.breaks_in_word.ensures ∙ ap (λ (fs : List Field). breaks_in_word slots fs c.args.candidate.now f c.args.word.now) (c.fields_in-fields.ensures l) ∙ breaks_same slots c.args.candidate.now f c.args.word.now c.args.plan.now.fields
