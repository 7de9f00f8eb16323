use Rattle.std.proofs.Common.{◌≤◌, ◌∙◌, Bool, take_all, ap, sym, subst, List, if◌then◌else◌}
use Rattle.cc_program.specs.declared.object.Object.{Object}
use Rattle.cc_slots_structures.proofs.ListLemmas.{ForObjects, no_objects, objects_more}
use Rattle.cc_slots_structures.proofs.added.add_objects.Goals as goal

pub add-requires : goal.add-requires
add-requires c = subst (λ n. c.args.first ≤ n) (sym c.loop-object.invariant.count) c.requires

pub loop-object-init : goal.loop-object-init
loop-object-init c = no_objects c.args.first c.args.list.now

pub loop-object-preserved : goal.loop-object-preserved
loop-object-preserved c =
    objects_more c.args.first c.args.objects.now c.loop-object.object-index c.object-item.result c.of_object.result c.args.list.now c.loop-object.list c.add.new.list c.loop-object-test.true c.object-item.is
    (c.of_object.ensures.copies ∙ ap (λ (b : Bool). if b then 0 else 1) c.is_const.ensures) c.of_object.ensures.is_open c.of_object.ensures.is_automatic c.loop-object.invariant c.add.ensures

pub returns : goal.returns
returns c =
    subst (λ (l : List Object). ForObjects c.args.first l c.args.list.now c.loop-object.list) (take_all c.loop-object.object-index c.args.objects.now c.loop-object-test.false) c.loop-object.invariant
