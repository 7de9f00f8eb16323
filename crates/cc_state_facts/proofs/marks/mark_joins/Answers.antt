-- Each mark that was joined stands in the list.
use Rattle.std.proofs.Common.{false, arith}
use Rattle.cc_state_facts.specs.Orders.{IsMarkJoin}
use Rattle.cc_state_facts.proofs.Steps.{joins_next}
use Rattle.cc_state_facts.proofs.marks.mark_joins.Goals as goal

pub loop-at-preserved : goal.loop-at-preserved
loop-at-preserved c =
    rw c.in_ok-push.ensures.items
    (joins_next IsMarkJoin c.args.marks.now c.args.others.now c.loop-at.both.items c.loop-at.at false c.mark_of_both.result (omega (arith, c.loop-at-test.true)) c.requires c.loop-at.invariant c.mark_of_both.ensures)
