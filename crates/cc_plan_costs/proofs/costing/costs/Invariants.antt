use Rattle.std.proofs.Common.{◌≡◌, map, take}
use Rattle.cc_plan_costs.specs.Costs.{cost_of}
use Rattle.cc_plan_costs.proofs.costing.costs.Given as goal

abbrev pub invariant-loop-slot : goal.invariant-loop-slot
invariant-loop-slot g l = l.costs.items ≡ map (cost_of l.points l.counts l.facts l.p) (take l.slot-index l.slots)
