use Rattle.std.proofs.Common.{◌≡◌}
use Rattle.cc_typed_statements.specs.Conditions.{joined}
use Rattle.cc_typed_statements.proofs.conditions.joined.Given as goal

abbrev pub invariant-loop-e : goal.invariant-loop-e
invariant-loop-e l = l.before ≡ joined l.yielded
