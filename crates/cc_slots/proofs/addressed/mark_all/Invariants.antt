use Rattle.std.proofs.Common.{take}
use Rattle.cc_slots.specs.Marks.{AreMarks}
use Rattle.cc_slots.proofs.addressed.mark_all.Given as goal

abbrev pub invariant-loop-key : goal.invariant-loop-key
invariant-loop-key l = AreMarks l.p (take l.key-index l.named) l.marks
