use Rattle.std.proofs.Common.{◌++◌, take, map, subst, sym}
use Rattle.std.proofs.lemmas.List.{append-nil}
use Rattle.cc_syntax.specs.Types.{Named}
use Rattle.cc_names.specs.View.{HaveSame}
use Rattle.cc_lower_numbers.proofs.Reservations.{mapped_reserved, mapped_ends}
use Rattle.cc_lower_numbers.proofs.names.reserve_named.Goals as goal

pub loop-one-init : goal.loop-one-init
loop-one-init c = λ r h. subst (λ l. HaveSame c.args.names.now l) (sym (append-nil r)) h

pub loop-one-preserved : goal.loop-one-preserved
loop-one-preserved c = λ r h.
    let xs = c.args.named.now in
    let i = c.loop-one.one-index in
    subst (λ l. HaveSame c.reserve_name.new.names l) (mapped_reserved (λ (x : Named). x.0) xs r i c.one-item.result (c.all.result.now) c.loop-one-test.true c.one-item.is (c.all.ensures))
    (c.in_ok-reserve_name.ensures (r ++ map (λ x. x.0) (take i xs)) (c.loop-one.invariant r h))

pub returns : goal.returns
returns c = λ r h. subst (λ l. HaveSame c.loop-one.names l) (mapped_ends (λ (x : Named). x.0) c.args.named.now r c.loop-one.one-index c.loop-one-test.false) (c.loop-one.invariant r h)
