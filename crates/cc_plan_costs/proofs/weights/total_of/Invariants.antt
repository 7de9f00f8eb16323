use Rattle.std.proofs.Common.{◌≡◌, ◌≤◌, ◌*◌, ◌^◌, take}
use Rattle.cc_plan_costs.specs.Sites.{total_of}
use Rattle.cc_plan_costs.proofs.weights.total_of.Given as goal

abbrev pub invariant-loop-n : goal.invariant-loop-n
invariant-loop-n l = record {
  value : l.total ≡ total_of l.points l.counts (take l.n-index l.these);
  most : l.total ≤ l.n-index * 2 ^ 30;
}
