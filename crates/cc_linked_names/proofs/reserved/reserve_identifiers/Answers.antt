use Rattle.std.proofs.Common.{[], ◌++◌, take, subst, sym}
use Rattle.std.proofs.lemmas.List.{append-nil}
use Rattle.std.specs.Prelude.{flat_map}
use Rattle.cc_linked_names.proofs.Giving.{all_more, all_end}
use Rattle.cc_names.specs.Holds.{Holds}
use Rattle.cc_things.specs.declared.text.Text.{Text}
use Rattle.cc_linked_names.proofs.reserved.reserve_identifiers.Goals as goal

pub loop-x-init : goal.loop-x-init
loop-x-init c = λ r h. subst (λ l. Holds c.args.taken.now l []) (sym (append-nil r)) h

pub loop-x-preserved : goal.loop-x-preserved
loop-x-preserved c = λ r h.
    let texts = c.args.texts.now in
    let i = c.loop-x.x-index in
    subst (λ l. Holds c.reserve_names.new.taken l []) (all_more (λ (x : Text). x.identifiers) texts r i c.x-item.result c.all.result.now c.loop-x-test.true c.x-item.is c.all.ensures)
    (c.in_ok-reserve_names.ensures (r ++ flat_map (λ x. x.identifiers) (take i texts)) (c.loop-x.invariant r h))

pub returns : goal.returns
returns c = λ r h. subst (λ l. Holds c.loop-x.taken l []) (all_end (λ (x : Text). x.identifiers) c.args.texts.now r c.loop-x.x-index c.loop-x-test.false) (c.loop-x.invariant r h)
