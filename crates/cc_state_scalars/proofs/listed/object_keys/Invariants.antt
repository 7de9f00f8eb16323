use Rattle.cc_state_scalars.proofs.Over.{AreMade, IsObjectList}
use Rattle.cc_state_scalars.proofs.listed.object_keys.Given as goal

abbrev pub invariant-loop-i : goal.invariant-loop-i
invariant-loop-i l = AreMade (IsObjectList l.table) l.objects l.i l.all.items
