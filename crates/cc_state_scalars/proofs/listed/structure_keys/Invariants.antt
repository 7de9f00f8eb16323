use Rattle.cc_state_scalars.proofs.Over.{IsTableTo}
use Rattle.cc_state_scalars.proofs.listed.structure_keys.Given as goal

abbrev pub invariant-loop-s : goal.invariant-loop-s
invariant-loop-s l = IsTableTo l.structures l.s l.table.items
