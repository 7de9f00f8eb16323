use Rattle.std.proofs.Common.{take}
use Rattle.cc_state_facts.specs.Orders.{AreMarksBelow}
use Rattle.cc_state_facts.proofs.marks.are_marks_below.Given as goal

abbrev pub invariant-loop-at : goal.invariant-loop-at
invariant-loop-at l = AreMarksBelow (take l.at l.marks) (take l.at l.others)
