use Rattle.std.proofs.Common.{[], ◌++◌, take, map, subst, sym}
use Rattle.std.proofs.lemmas.List.{append-nil}
use Rattle.cc_syntax.specs.Types.{Named}
use Rattle.cc_names.specs.Holds.{Holds}
use Rattle.cc_lower_numbers.proofs.Reservations.{mapped_reserved, mapped_ends}
use Rattle.cc_rewrite_names.proofs.reservations.reserve_named.Goals as goal

pub loop-one-init : goal.loop-one-init
loop-one-init c = λ r h. subst (λ l. Holds c.args.taken.now l []) (sym (append-nil r)) h

pub loop-one-preserved : goal.loop-one-preserved
loop-one-preserved c = λ r h.
    let xs = c.args.named.now in
    let i = c.loop-one.one-index in
    subst (λ l. Holds c.reserve.new.self l []) (mapped_reserved (λ (x : Named). x.0) xs r i c.one-item.result (c.all.result.now) c.loop-one-test.true c.one-item.is (c.all.ensures))
    (c.in_ok-reserve.ensures (r ++ map (λ x. x.0) (take i xs)) (c.loop-one.invariant r h))

pub returns : goal.returns
returns c = λ r h. subst (λ l. Holds c.loop-one.taken l []) (mapped_ends (λ (x : Named). x.0) c.args.named.now r c.loop-one.one-index c.loop-one-test.false) (c.loop-one.invariant r h)
