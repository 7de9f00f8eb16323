use Rattle.std.proofs.Common.{◌≡◌, take}
use Rattle.cc_proof_covers.specs.Covers.{innermost as innermost_of}
use Rattle.cc_steps.specs.View.{actives_of}
use Rattle.cc_state_holds.proofs.functions.innermost.Given as goal

abbrev pub invariant-loop-a : goal.invariant-loop-a
invariant-loop-a l = l.level ≡ innermost_of l.p (actives_of (take l.a-index l.stack))
