use Rattle.std.proofs.Common.{ℕ, ◌<◌}
use Rattle.cc_state_shaped.specs.Names.{HaveSame}
use Rattle.cc_state_shaped.proofs.keys.have_same.Given as goal

abbrev pub invariant-loop-number : goal.invariant-loop-number
invariant-loop-number l = (n : ℕ) → n < l.number → HaveSame l.keys l.others n
