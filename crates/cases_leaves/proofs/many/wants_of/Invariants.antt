use Rattle.cases_leaves.proofs.Apart.{Numbered}
use Rattle.cases_leaves.proofs.many.wants_of.Given as goal

abbrev pub invariant-loop-slot : goal.invariant-loop-slot
invariant-loop-slot l = Numbered l.wants.items l.slot
