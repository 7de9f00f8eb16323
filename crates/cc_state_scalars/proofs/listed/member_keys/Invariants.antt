use Rattle.cc_state_scalars.proofs.Over.{AreMemberLists}
use Rattle.cc_state_scalars.proofs.listed.member_keys.Given as goal

abbrev pub invariant-loop-m : goal.invariant-loop-m
invariant-loop-m l = AreMemberLists l.table l.s l.members l.m l.all.items
