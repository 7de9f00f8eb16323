use Rattle.std.proofs.Common.{take}
use Rattle.cc_slots_structures.proofs.ListLemmas.{ForLocals}
use Rattle.cc_slots_structures.proofs.added.add_locals.Given as goal

abbrev pub invariant-loop-f : goal.invariant-loop-f
invariant-loop-f l = ForLocals l.first (take l.f-index l.funcs) l.fn.list l.list
