use Rattle.std.proofs.Common.{◌≡◌, ◌≤◌, ◌*◌, ◌^◌, sum_by, take}
use Rattle.cc_cost_ranking.specs.declared.types.Costed.{Costed}
use Rattle.cases_domains.proofs.costs.code_of.Given as goal

abbrev pub invariant-loop-costed : goal.invariant-loop-costed
invariant-loop-costed l = (l.sum ≡ sum_by (λ (c : Costed). c.code) (take l.costed-index l.list)) × (l.sum ≤ l.costed-index * (2 ^ 64))
