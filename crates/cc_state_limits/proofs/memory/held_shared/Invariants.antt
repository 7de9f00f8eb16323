use Rattle.std.proofs.Common.{All, take}
use Rattle.cc_state_limits.specs.Held.{IsHeldSet}
use Rattle.cc_state_limits.proofs.memory.held_shared.Given as goal

abbrev pub invariant-loop-set : goal.invariant-loop-set
invariant-loop-set g l = All IsHeldSet (take l.set-index l.sets)
