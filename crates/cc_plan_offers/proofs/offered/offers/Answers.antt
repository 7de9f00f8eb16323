use Rattle.std.proofs.Common.{◌∙◌, ap, not}
use Rattle.cc_plan_offers.specs.Offers.{offers_from}
use Rattle.cc_plan_offers.proofs.OfferLemmas.{next_fits}
use Rattle.cc_plan_offers.proofs.offered.offers.Goals as goal

pub offer-requires : goal.offer-requires
offer-requires c =
    next_fits c.args.costs.now c.loop-left.number c.loop-left.left.now _ c.in-len1-up.len_at_least (ap not (c.is_none.ensures ∙ ap not c.if-is_none.true))
    c.loop-left.offers.items (offers_from c.args.costs.now 0 c.args.slots.now) c.loop-left.invariant.offers c.requires.gains
