use Rattle.std.proofs.Common.{◌≡◌, take}
use Rattle.cc_steps.specs.Turn.{running_level as running_level_of}
use Rattle.cc_steps.specs.View.{actives_of}
use Rattle.cc_state_holds.proofs.functions.running_level.Given as goal

abbrev pub invariant-loop-a : goal.invariant-loop-a
invariant-loop-a l = l.level ≡ running_level_of l.p (actives_of (take l.a-index l.stack))
