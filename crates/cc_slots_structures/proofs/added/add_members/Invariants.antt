use Rattle.std.proofs.Common.{take}
use Rattle.cc_slots_structures.proofs.ListLemmas.{ForMembers}
use Rattle.cc_slots_structures.proofs.added.add_members.Given as goal

abbrev pub invariant-loop-member : goal.invariant-loop-member
invariant-loop-member l = ForMembers l.first l.place (take l.member-index l.members) l.fn.list l.list
