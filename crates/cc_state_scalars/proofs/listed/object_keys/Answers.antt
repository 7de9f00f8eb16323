-- Each object has its list.
use Rattle.std.proofs.Common.{arith, ◌≡◌, ◌+◌, Some, ap, sym, ◌∙◌, subst, slice_get}
use Rattle.std.proofs.lemmas.Option.{slice_get-get_or}
use Rattle.cc_state_scalars.proofs.Over.{AreMade, IsObjectList, objects_more, objects_made}
use Rattle.cc_state_scalars.proofs.listed.object_keys.Goals as goal
use Rattle.cc_state_scalars.specs.Listed.{AreObjectKeys}

pub loop-i-preserved : goal.loop-i-preserved
loop-i-preserved c =
    let o = c.index-objects-i.result in
    let at : slice_get c.args.objects.now c.loop-i.i ≡ Some o = slice_get-get_or c.args.objects.now c.loop-i.i o c.loop-i-test.true ∙ ap Some (sym c.index-objects-i.is) in
    subst (AreMade (IsObjectList c.args.table.now) c.args.objects.now (c.loop-i.i + 1)) (sym c.in_ok-push.ensures.items)
    (objects_more c.args.table.now c.args.objects.now c.loop-i.i c.loop-i.all.items o c.in_ok-keys.keys c.loop-i.invariant at c.in_ok-keys.ensures)

pub returns : goal.returns
returns c =
    subst (AreObjectKeys c.args.table.now c.args.objects.now) (sym c.of.ensures)
    (objects_made c.args.table.now c.args.objects.now c.loop-i.i c.loop-i.all.items (omega (arith, c.loop-i-test.false, c.loop-i.auto.i-end)) c.loop-i.invariant)
