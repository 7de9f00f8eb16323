use Rattle.std.proofs.Common.{◌≡◌, ◌++◌}
use Rattle.cc_lower_statements.proofs.loops.appended.Given as goal

abbrev pub invariant-loop-s : goal.invariant-loop-s
invariant-loop-s l = l.out.items ≡ l.fn.first.items ++ l.yielded
