use Rattle.std.proofs.Common.{◌≡◌, ◌++◌}
use Rattle.cc_typed_bodies.proofs.declarations.append.Given as goal

abbrev pub invariant-loop-e : goal.invariant-loop-e
invariant-loop-e l = l.out.items ≡ l.initial.out.items ++ l.yielded
