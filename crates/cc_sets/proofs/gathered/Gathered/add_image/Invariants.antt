-- What the numbers so far give is added.
use Rattle.std.proofs.Common.{◌≡◌, ℤ, Some}
use Rattle.std.specs.List.{Contains}
use Rattle.cc_num.specs.Results.{result_of}
use Rattle.cc_sets.specs.Gatherings.{Adds}
use Rattle.cc_sets.proofs.Adding.{Before}
use Rattle.cc_sets.proofs.gathered.Gathered.add_image.Given as goal

abbrev pub invariant-loop-v : goal.invariant-loop-v
invariant-loop-v l = Adds l.initial.self l.self (Before (λ (v : ℤ) (z : ℤ). (w : ℤ) × Contains l.seconds w × (result_of l.op v w l.t l.target ≡ Some z)) l.firsts l.v-index)
