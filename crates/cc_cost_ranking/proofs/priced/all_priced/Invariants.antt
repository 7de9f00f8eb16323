use Rattle.std.proofs.Common.{◌≡◌, map, take, All}
use Rattle.cc_cost_ranking.specs.declared.priced.Priced.{Priced}
use Rattle.cc_cost_ranking.specs.Ranking.{price}
use Rattle.cc_cost_ranking.proofs.priced.all_priced.Given as goal

abbrev pub invariant-loop-costed : goal.invariant-loop-costed
invariant-loop-costed l = (map (λ (p : Priced). p.costed) l.all.items ≡ take l.costed-index l.list) × All (λ (p : Priced). p.price ≡ price l.weights p.costed) l.all.items
