use Rattle.cc_cost_ranking.specs.Ranking.{AreApart}
use Rattle.cases_domains.proofs.costs.list_of.Given as goal

abbrev pub invariant-loop-word : goal.invariant-loop-word
invariant-loop-word l = AreApart l.list.items
