use Rattle.cc_state_scalars.proofs.Locals.{IsLocalList}
use Rattle.cc_state_scalars.proofs.Over.{AreMade}
use Rattle.cc_state_scalars.proofs.listed.local_keys_over.Given as goal

abbrev pub invariant-loop-r : goal.invariant-loop-r
invariant-loop-r l = AreMade (IsLocalList l.table l.id) l.locals l.r l.all.items
