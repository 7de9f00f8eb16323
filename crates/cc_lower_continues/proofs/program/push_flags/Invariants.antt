use Rattle.std.proofs.Common.{◌≡◌, ◌++◌}
use Rattle.cc_lower_continues.specs.Continues.{flag_locals}
use Rattle.cc_lower_continues.proofs.program.push_flags.Given as goal

abbrev pub invariant-loop-flag : goal.invariant-loop-flag
invariant-loop-flag l = l.out.items ≡ l.fn.locals.items ++ flag_locals l._flag
