use Rattle.std.proofs.Common.{◌≡◌, map, take}
use Rattle.cc_cost_ranking.specs.declared.priced.Priced.{Priced}
use Rattle.cc_cost_ranking.proofs.order.without_prices.Given as goal

abbrev pub invariant-loop-priced : goal.invariant-loop-priced
invariant-loop-priced l = l.list.items ≡ map (λ (p : Priced). p.costed) (take l.priced-index l.all)
