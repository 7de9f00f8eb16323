use Rattle.std.proofs.Common.{All, take}
use Rattle.cc_state_limits.specs.Held.{IsHeldKnown}
use Rattle.cc_state_limits.proofs.memory.held_points.Given as goal

abbrev pub invariant-loop-known : goal.invariant-loop-known
invariant-loop-known g l = All IsHeldKnown (take l.known-index l.at)
