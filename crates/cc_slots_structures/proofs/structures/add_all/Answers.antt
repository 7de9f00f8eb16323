use Rattle.std.proofs.Common.{arith, length, refl, subst, List}
use Rattle.cc_program.specs.declared.func.Func.{Func}
use Rattle.cc_program.specs.declared.object.Object.{Object}
use Rattle.cc_slots_structures.proofs.DownLemmas.{at_first}
use Rattle.cc_slots_structures.proofs.ListLemmas.{ForLocals, ForObjects}
use Rattle.cc_slots_structures.proofs.structures.add_all.Goals as goal

pub add_locals-requires : goal.add_locals-requires
add_locals-requires c = let count = c.add_objects.ensures.count in omega (arith, count)

pub add_structures-requires : goal.add_structures-requires
add_structures-requires c =
    at_first c.args.p.now (length c.args.list.now) c.args.list.now c.add_objects.new.list c.add_locals.new.list c.requires refl
    (subst (λ (l : List Object). ForObjects (length c.args.list.now) l c.args.list.now c.add_objects.new.list) c.all.ensures c.add_objects.ensures)
    (subst (λ (l : List Func). ForLocals (length c.args.list.now) l c.add_objects.new.list c.add_locals.new.list) c.all-2.ensures c.add_locals.ensures)
