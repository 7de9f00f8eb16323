use Rattle.std.proofs.Common.{◌≡◌}
use Rattle.cc_state_scalars.proofs.Rows.{repeats}
use Rattle.cc_state_scalars.proofs.listed.repeated.Given as goal

abbrev pub invariant-loop-time : goal.invariant-loop-time
invariant-loop-time l = l.all.items ≡ repeats l._time l.keys
