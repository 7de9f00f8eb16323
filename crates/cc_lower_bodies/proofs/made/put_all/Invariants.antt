use Rattle.std.proofs.Common.{◌≡◌, ◌++◌}
use Rattle.cc_lower_bodies.proofs.made.put_all.Given as goal

abbrev pub invariant-loop-s : goal.invariant-loop-s
invariant-loop-s l = l.out.items ≡ l.fn.out.items ++ l.yielded
