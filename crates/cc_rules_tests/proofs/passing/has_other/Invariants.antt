use Rattle.std.proofs.Common.{ℤ, take}
use Rattle.std.specs.List.{Contains}
use Rattle.cc_rules_tests.proofs.passing.has_other.Given as goal

abbrev pub invariant-loop-n : goal.invariant-loop-n
invariant-loop-n l = (v : ℤ) → Contains (take l.n-index l.numbers) v → Contains l.others v
