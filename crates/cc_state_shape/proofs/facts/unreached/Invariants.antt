use Rattle.std.proofs.Common.{◌≡◌, replicate, None}
use Rattle.cc_state_shape.proofs.facts.unreached.Given as goal

abbrev pub invariant-loop-point : goal.invariant-loop-point
invariant-loop-point g l = l.at.items ≡ replicate l.point None
