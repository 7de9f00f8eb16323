use Rattle.std.proofs.Common.{◌≡◌, ◌≤◌, ◌*◌, ◌^◌, take}
use Rattle.cc_cost_ranking.specs.Ranking.{taken_of}
use Rattle.cc_cost_ranking.proofs.taking.take.Given as goal

abbrev pub invariant-loop-costed : goal.invariant-loop-costed
invariant-loop-costed l = (taken_of l.budgets (take l.costed-index l.order) ≡ record { slots = l.slots.items; code = l.code; time = l.time })
    × (l.code ≤ l.costed-index * 2 ^ 64) × (l.time ≤ l.costed-index * 2 ^ 64)
