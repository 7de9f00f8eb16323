use Rattle.cc_slots_points.proofs.FrameLemmas.{AreFirst}
use Rattle.cc_slots_points.proofs.frames.frames.Given as goal

abbrev pub invariant-loop-f : goal.invariant-loop-f
invariant-loop-f l = AreFirst l.funcs l.frames.items l.f-index
