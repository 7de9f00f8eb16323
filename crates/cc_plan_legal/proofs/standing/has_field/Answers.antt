use Rattle.std.proofs.Common.{◌∙◌, ℕ, List, ap}
use Rattle.cc_plan_legal.specs.Legality.{is_among}
use Rattle.cc_plan_legal.proofs.IndexLemmas.{among_slots}
use Rattle.cc_plan_legal.proofs.standing.has_field.Goals as goal

pub returns : goal.returns
returns c = c.is_among.ensures ∙ ap (λ (slots : List ℕ). is_among slots c.args.slot) (c.all.ensures ∙ c.requires.slots) ∙ among_slots c.args.plan.now.fields c.args.slot
