use Rattle.std.proofs.Common.{◌-◌, length}
use Rattle.cc_structures.specs.View.{units_of}
use Rattle.cc_structures.proofs.RefineLemmas.{IsRound}
use Rattle.cc_structures.proofs.refined.refined.Given as goal

abbrev pub invariant-rounds : goal.invariant-rounds
invariant-rounds l = IsRound (units_of l.texts) l.fn.start.numbers.items l.current.numbers.items l.current.count

abbrev pub decreases-rounds : goal.decreases-rounds
decreases-rounds l = length l.nodes - l.current.count
