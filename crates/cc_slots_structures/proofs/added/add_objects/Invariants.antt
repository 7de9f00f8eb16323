use Rattle.std.proofs.Common.{take}
use Rattle.cc_slots_structures.proofs.ListLemmas.{ForObjects}
use Rattle.cc_slots_structures.proofs.added.add_objects.Given as goal

abbrev pub invariant-loop-object : goal.invariant-loop-object
invariant-loop-object l = ForObjects l.first (take l.object-index l.objects) l.fn.list l.list
