use Rattle.cc_state_shaped.proofs.Filled.{AscendTo}
use Rattle.cc_state_shaped.proofs.pairs.do_ascend.Given as goal

abbrev pub invariant-loop-number : goal.invariant-loop-number
invariant-loop-number l = AscendTo l.pairs l.number
