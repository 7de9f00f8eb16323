-- Each structure stands on those before it.
use Rattle.std.proofs.Common.{◌≡◌, ◌+◌, List, Some, ap, sym, ◌∙◌, subst, slice_get}
use Rattle.std.proofs.lemmas.Option.{slice_get-get_or}
use Rattle.cc_state_keys.specs.CcStateFacts.declared.facts.Key.{Key}
use Rattle.cc_state_scalars.proofs.Over.{IsTableTo, table_more}
use Rattle.cc_state_scalars.proofs.listed.structure_keys.Goals as goal
use Rattle.cc_state_scalars.specs.Listed.{AreMemberKeysOver}
use Rattle.cc_state_keys.specs.CcSyntax.Types.{Named}

pub loop-s-preserved : goal.loop-s-preserved
loop-s-preserved c =
    let st = c.index-structures-s.result in
    let at : slice_get c.args.structures.now c.loop-s.s ≡ Some st = slice_get-get_or c.args.structures.now c.loop-s.s st c.loop-s-test.true ∙ ap Some (sym c.index-structures-s.is) in
    let over = subst (λ (t : List (List Key)). AreMemberKeysOver t c.loop-s.s c.all.result.now c.in_ok-keys.keys) c.deref.ensures.value c.in_ok-keys.ensures in
    let is = subst (λ (ns : List Named). AreMemberKeysOver c.loop-s.table.items c.loop-s.s ns c.in_ok-keys.keys) c.all.ensures over in
    subst (IsTableTo c.args.structures.now (c.loop-s.s + 1)) (sym c.in_ok-push.ensures.items) (table_more c.args.structures.now c.loop-s.s c.loop-s.table.items st c.in_ok-keys.keys c.loop-s.invariant at is)
