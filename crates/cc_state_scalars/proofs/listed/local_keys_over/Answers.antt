-- Each local has its list.
use Rattle.std.proofs.Common.{arith, ◌≡◌, ◌+◌, Some, ap, sym, ◌∙◌, subst, slice_get}
use Rattle.std.proofs.lemmas.Option.{slice_get-get_or}
use Rattle.cc_state_scalars.proofs.Locals.{IsLocalList, locals_more, locals_made}
use Rattle.cc_state_scalars.proofs.Over.{AreMade}
use Rattle.cc_state_scalars.proofs.listed.local_keys_over.Goals as goal
use Rattle.cc_state_scalars.specs.Listed.{AreLocalKeysOver}

pub loop-r-preserved : goal.loop-r-preserved
loop-r-preserved c =
    let l = c.index-locals-r.result in
    let at : slice_get c.args.locals.now c.loop-r.r ≡ Some l = slice_get-get_or c.args.locals.now c.loop-r.r l c.loop-r-test.true ∙ ap Some (sym c.index-locals-r.is) in
    subst (AreMade (IsLocalList c.args.table.now c.args.id) c.args.locals.now (c.loop-r.r + 1)) (sym c.in_ok-push.ensures.items)
    (locals_more c.args.table.now c.args.id c.args.locals.now c.loop-r.r c.loop-r.all.items l c.in_ok-keys.keys c.loop-r.invariant at c.in_ok-keys.ensures)

pub returns : goal.returns
returns c =
    subst (AreLocalKeysOver c.args.table.now c.args.id c.args.locals.now) (sym c.of.ensures)
    (locals_made c.args.table.now c.args.id c.args.locals.now c.loop-r.r c.loop-r.all.items (omega (arith, c.loop-r-test.false, c.loop-r.auto.r-end)) c.loop-r.invariant)
