use Rattle.std.proofs.Common.{◌≡◌, replicate, None}
use Rattle.cc_steps.proofs.calls.none_written.Given as goal

abbrev pub invariant-loop-scalar : goal.invariant-loop-scalar
invariant-loop-scalar l = l.scalars.items ≡ replicate l._scalar None
