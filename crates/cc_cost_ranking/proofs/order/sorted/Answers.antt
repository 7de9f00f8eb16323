use Rattle.std.proofs.Common.{rules}
use Rattle.std.proofs.lemmas.Fn.{always_returns_same}
use Rattle.cc_cost_ranking.specs.declared.priced.Priced.{Priced}
use Rattle.std.specs.Ordering.{is_lt}
use Rattle.cc_cost_ranking.specs.Priced.{priced_order}
use Rattle.cc_cost_ranking.proofs.Orders.{priced_lt_order}
use Rattle.cc_cost_ranking.proofs.order.sorted.Goals as goal

pub returns-clause-sorted : goal.returns-clause-sorted
returns-clause-sorted c = c.in_ok-sort_by.ensures.sorted (λ (x y : Priced). is_lt (priced_order x y)) priced_lt_order (always_returns_same _ _ _ (λ a r q k. search rules))
