use Rattle.std.proofs.Common.{◌≡◌, ◌≤◌, All, length}
use Rattle.cc_plan_costs.specs.Counts.{count_for}
use Rattle.cc_plan_costs.proofs.counts.count_for.Given as goal

abbrev pub invariant-loop-left : goal.invariant-loop-left
invariant-loop-left l = record {
  value : count_for l.given l.name ≡ count_for l.left l.name;
  most : All (λ g. g.1 ≤ 1000000000) l.left;
}

abbrev pub decreases-loop-left : goal.decreases-loop-left
decreases-loop-left l = length l.left
