-- Each mark that was compared is below the other.
use Rattle.std.proofs.Common.{false, refl, arith}
use Rattle.cc_state_facts.specs.Orders.{IsMarkBelow}
use Rattle.cc_state_facts.proofs.Steps.{zip_next}
use Rattle.cc_state_facts.proofs.marks.are_marks_below.Goals as goal

pub loop-at-preserved : goal.loop-at-preserved
loop-at-preserved c =
    zip_next IsMarkBelow c.args.marks.now c.args.others.now c.loop-at.at false (omega (arith, c.loop-at-test.true)) c.requires c.loop-at.invariant (c.if-not-is_mark_below.ensures.0 refl)
