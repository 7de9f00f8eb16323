use Rattle.std.proofs.Common.{◌≡◌, map, take}
use Rattle.cc_plan_costs.specs.Costs.{price_of}
use Rattle.cc_plan_costs.proofs.tables.prices.Given as goal

abbrev pub invariant-loop-slot : goal.invariant-loop-slot
invariant-loop-slot g l = l.prices.items ≡ map (price_of l.points l.counts l.facts l.p) (take l.slot-index l.slots)
