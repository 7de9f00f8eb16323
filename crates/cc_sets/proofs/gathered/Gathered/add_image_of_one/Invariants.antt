-- What the numbers so far give is added.
use Rattle.std.proofs.Common.{◌≡◌, ℤ, Some}
use Rattle.cc_num.specs.Results.{unary_result_of}
use Rattle.cc_sets.specs.Gatherings.{Adds}
use Rattle.cc_sets.proofs.Adding.{Before}
use Rattle.cc_sets.proofs.gathered.Gathered.add_image_of_one.Given as goal

abbrev pub invariant-loop-v : goal.invariant-loop-v
invariant-loop-v l = Adds l.initial.self l.self (Before (λ (v : ℤ) (z : ℤ). unary_result_of l.op v l.t l.target ≡ Some z) l.numbers l.v-index)
