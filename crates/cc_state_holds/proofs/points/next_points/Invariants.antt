use Rattle.std.specs.Prelude.{take}
use Rattle.cc_state_holds.proofs.Counted.{AreNextOf}
use Rattle.cc_state_holds.proofs.points.next_points.Given as goal

abbrev pub invariant-loop-m : goal.invariant-loop-m
invariant-loop-m l = AreNextOf l.flow l.all.items (take l.m-index l.points)
