use Rattle.std.proofs.Common.{◌∙◌, ◌≤◌, ◌^◌, List, All, subst, sym}
use Rattle.cc_cost_ranking.specs.declared.types.Costed.{Costed}
use Rattle.cc_plan_choice.specs.Choice.{AreOffers}
use Rattle.cc_plan_offers.proofs.OfferLemmas.{are_offers, each_within}
use Rattle.cc_plan_offers.proofs.planning.plan.Goals as goal

pub offers-requires-clause-gains : goal.offers-requires-clause-gains
offers-requires-clause-gains c = each_within c.args.costs.now 0 c.args.slots.now c.requires.bytes

pub choose-requires-clause-offered : goal.choose-requires-clause-offered
choose-requires-clause-offered c =
    subst (AreOffers c.args.slots.now) (sym (c.deref.ensures.value ∙ c.in_ok-offered.ensures)) (are_offers c.args.costs.now c.args.slots.now)

pub choose-requires-clause-gains : goal.choose-requires-clause-gains
choose-requires-clause-gains c =
    subst (λ (os : List Costed). All (λ (o : Costed). o.gain ≤ 2 ^ 40) os) (sym (c.deref.ensures.value ∙ c.in_ok-offered.ensures)) (each_within c.args.costs.now 0 c.args.slots.now c.requires.bytes)
