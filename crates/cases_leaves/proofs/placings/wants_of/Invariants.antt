use Rattle.cases_leaves.specs.Wants.{ArePlaceable}
use Rattle.cases_leaves.proofs.placings.wants_of.Given as goal

abbrev pub invariant-loop-word : goal.invariant-loop-word
invariant-loop-word l = ArePlaceable l.wants.items
