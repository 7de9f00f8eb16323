use Rattle.std.proofs.Common.{[], ◌++◌, take, subst, sym}
use Rattle.std.proofs.lemmas.List.{append-nil}
use Rattle.cc_linked_names.proofs.Giving.{reserved_more, reserved_end}
use Rattle.cc_names.specs.Holds.{Holds}
use Rattle.cc_linked_names.proofs.reserved.reserve_names.Goals as goal

pub loop-name-init : goal.loop-name-init
loop-name-init c = λ r h. subst (λ l. Holds c.args.taken.now l []) (sym (append-nil r)) h

pub loop-name-preserved : goal.loop-name-preserved
loop-name-preserved c = λ r h.
    let names = c.args.names.now in
    let i = c.loop-name.name-index in
    subst (λ l. Holds c.reserve.new.self l []) (reserved_more names r i c.all.result.now c.name-item.result c.loop-name-test.true c.name-item.is c.all.ensures)
    (c.in_ok-reserve.ensures (r ++ take i names) (c.loop-name.invariant r h))

pub returns : goal.returns
returns c = λ r h. subst (λ l. Holds c.loop-name.taken l []) (reserved_end c.args.names.now r c.loop-name.name-index c.loop-name-test.false) (c.loop-name.invariant r h)
