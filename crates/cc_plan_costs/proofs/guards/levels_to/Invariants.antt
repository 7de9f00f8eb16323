use Rattle.std.proofs.Common.{◌≡◌, take}
use Rattle.cc_plan_costs.specs.Guards.{levels_to}
use Rattle.cc_plan_costs.proofs.guards.levels_to.Given as goal

abbrev pub invariant-loop-n : goal.invariant-loop-n
invariant-loop-n g l = l.levels ≡ levels_to l.points l.facts (take l.n-index l.these)
