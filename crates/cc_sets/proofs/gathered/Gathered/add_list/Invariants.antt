-- What the numbers so far give is added.
use Rattle.std.proofs.Common.{◌≡◌, ℤ}
use Rattle.cc_sets.specs.Gatherings.{Adds}
use Rattle.cc_sets.proofs.Adding.{Before}
use Rattle.cc_sets.proofs.gathered.Gathered.add_list.Given as goal

abbrev pub invariant-loop-v : goal.invariant-loop-v
invariant-loop-v l = Adds l.initial.self l.self (Before (λ (v : ℤ) (z : ℤ). v ≡ z) l.numbers l.v-index)
