use Rattle.cc_state_shaped.proofs.Filled.{AreFilledTo}
use Rattle.cc_state_shaped.proofs.rows.are_filled.Given as goal

abbrev pub invariant-loop-number : goal.invariant-loop-number
invariant-loop-number g l = AreFilledTo l.rows l.number
