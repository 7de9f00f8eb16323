use Rattle.std.proofs.Common.{◌≡◌, ◌≤◌, ◌^◌, All, map, take}
use Rattle.cc_plan_costs.specs.Counts.{count_for}
use Rattle.cc_plan_costs.proofs.counts.counts_of.Given as goal

abbrev pub invariant-loop-func : goal.invariant-loop-func
invariant-loop-func l = record {
  value : l.counts.items ≡ map (λ f. count_for l.given f.name) (take l.func-index l.func-items);
  most : All (λ c. c ≤ 2 ^ 30) l.counts.items;
}
