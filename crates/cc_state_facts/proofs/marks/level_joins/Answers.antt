-- Each set of levels that was joined stands in the list.
use Rattle.std.proofs.Common.{arith}
use Rattle.cc_state_facts.specs.Orders.{IsLevelJoin}
use Rattle.cc_state_facts.proofs.Steps.{joins_next}
use Rattle.cc_state_facts.proofs.marks.level_joins.Goals as goal

pub loop-at-preserved : goal.loop-at-preserved
loop-at-preserved c =
    rw c.in_ok-push.ensures.items
    (joins_next IsLevelJoin c.args.sets.now c.args.others.now c.loop-at.both.items c.loop-at.at 0 c.levels_of_both.result (omega (arith, c.loop-at-test.true)) c.requires c.loop-at.invariant c.levels_of_both.ensures)
