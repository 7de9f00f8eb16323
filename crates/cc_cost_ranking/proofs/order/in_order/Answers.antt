use Rattle.std.proofs.Common.{◌∙◌, ap, map}
use Rattle.std.proofs.lemmas.Result.{IfOk-weaker}
use Rattle.cc_cost_ranking.specs.declared.priced.Priced.{Priced}
use Rattle.cc_cost_ranking.proofs.Orders.{ranked}
use Rattle.cc_cost_ranking.proofs.order.in_order.Goals as goal

pub returns-clause-permuted : goal.returns-clause-permuted
returns-clause-permuted c =
    let made = c.in_ok-priced.ensures in
    let up = c.in_ok-order.ensures in
    IfOk-weaker c.without_prices.result _ _
    (λ list h. (ranked c.args.weights.now c.args.list.now list.items c.in_ok-priced.priced.items c.in_ok-order.order.items made.slots made.prices up.permuted up.sorted
    (h ∙ ap (map (λ (p : Priced). p.costed)) c.deref.ensures.value)).0)
    c.without_prices.ensures

pub returns-clause-sorted : goal.returns-clause-sorted
returns-clause-sorted c =
    let made = c.in_ok-priced.ensures in
    let up = c.in_ok-order.ensures in
    IfOk-weaker c.without_prices.result _ _
    (λ list h. (ranked c.args.weights.now c.args.list.now list.items c.in_ok-priced.priced.items c.in_ok-order.order.items made.slots made.prices up.permuted up.sorted
    (h ∙ ap (map (λ (p : Priced). p.costed)) c.deref.ensures.value)).1)
    c.without_prices.ensures
