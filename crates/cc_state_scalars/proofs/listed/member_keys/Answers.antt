-- Each member has its list.
use Rattle.std.proofs.Common.{arith, ◌≡◌, ◌++◌, List, Some, ap, sym, ◌∙◌, subst, slice_get}
use Rattle.std.proofs.lemmas.Option.{slice_get-get_or}
use Rattle.cc_state_keys.specs.CcStateFacts.declared.facts.Key.{Key}
use Rattle.cc_state_scalars.proofs.Over.{members_more, members_all}
use Rattle.cc_state_scalars.proofs.listed.member_keys.Goals as goal
use Rattle.cc_state_scalars.specs.Listed.{AreMemberKeysOver}

pub loop-m-preserved : goal.loop-m-preserved
loop-m-preserved c =
    let n = c.index-members-m.result in
    let at : slice_get c.args.members.now c.loop-m.m ≡ Some n = slice_get-get_or c.args.members.now c.loop-m.m n c.loop-m-test.true ∙ ap Some (sym c.index-members-m.is) in
    members_more c.args.table.now c.args.s c.args.members.now c.loop-m.m c.loop-m.all.items c.in_ok-all.all.items n c.in_ok-keys.keys c.loop-m.invariant at c.in_ok-keys.ensures
    (c.in_ok-all.ensures ∙ ap (λ (k : List Key). c.loop-m.all.items ++ k) c.all.ensures)

pub returns : goal.returns
returns c =
    subst (AreMemberKeysOver c.args.table.now c.args.s c.args.members.now) (sym c.of.ensures)
    (members_all c.args.table.now c.args.s c.args.members.now c.loop-m.m c.loop-m.all.items (omega (arith, c.loop-m-test.false, c.loop-m.auto.m-end)) c.loop-m.invariant)
