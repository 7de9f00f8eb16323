use Rattle.std.proofs.Common.{◌≡◌, ◌≤◌, ◌*◌, ◌^◌, take}
use Rattle.cc_plan_costs.specs.Sites.{guarded_of}
use Rattle.cc_plan_costs.proofs.sites.guarded_of.Given as goal

abbrev pub invariant-loop-n : goal.invariant-loop-n
invariant-loop-n g l = record {
  value : l.total ≡ guarded_of l.points l.counts l.facts l.levels (take l.n-index l.these);
  most : l.total ≤ l.n-index * 2 ^ 30;
}
