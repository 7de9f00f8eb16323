-- What the numbers so far give is added.
use Rattle.std.proofs.Common.{◌≡◌, ℤ, Some}
use Rattle.cc_num.specs.Results.{result_of}
use Rattle.cc_sets.specs.Gatherings.{Adds}
use Rattle.cc_sets.proofs.Adding.{Before}
use Rattle.cc_sets.proofs.gathered.Gathered.add_row.Given as goal

abbrev pub invariant-loop-w : goal.invariant-loop-w
invariant-loop-w l = Adds l.initial.self l.self (Before (λ (w : ℤ) (z : ℤ). result_of l.op l.fn.v w l.t l.target ≡ Some z) l.seconds l.w-index)
