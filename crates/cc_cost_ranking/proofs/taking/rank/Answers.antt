use Rattle.std.proofs.Common.{◌∙◌, ap, List}
use Rattle.std.proofs.lemmas.Result.{IfOk-weaker}
use Rattle.cc_cost_ranking.specs.declared.types.Costed.{Costed}
use Rattle.cc_cost_ranking.specs.Ranking.{taken_of}
use Rattle.cc_cost_ranking.proofs.taking.rank.Goals as goal

pub returns : goal.returns
returns c =
    IfOk-weaker c.take.result _ _
    (λ slots h. record {
      order = c.in_ok-order.order.items;
      permuted = c.in_ok-order.ensures.permuted;
      sorted = c.in_ok-order.ensures.sorted;
      taken = h ∙ ap (λ (xs : List Costed). (taken_of c.args.budgets.now xs).slots) c.deref.ensures.value;
    })
    c.take.ensures
