-- What the numbers so far give is added.
use Rattle.std.proofs.Common.{◌≤ℤ◌, ◌<ℤ◌, ◌+ℤ◌, pos, ℤ}
use Rattle.cc_sets.specs.Gatherings.{Adds}
use Rattle.cc_sets.proofs.gathered.Gathered.add_run.Given as goal

abbrev pub invariant-loop-k : goal.invariant-loop-k
invariant-loop-k l = Adds l.initial.self l.self (λ (z : ℤ). (l.fn.low ≤ℤ z) × (z <ℤ (l.fn.low +ℤ pos l.k)))
