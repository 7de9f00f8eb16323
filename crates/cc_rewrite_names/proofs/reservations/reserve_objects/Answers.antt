use Rattle.std.proofs.Common.{[], ◌++◌, take, map, subst, sym}
use Rattle.std.proofs.lemmas.List.{append-nil}
use Rattle.cc_program.specs.declared.object.Object.{Object}
use Rattle.cc_names.specs.Holds.{Holds}
use Rattle.cc_lower_numbers.proofs.Reservations.{mapped_reserved, mapped_ends}
use Rattle.cc_rewrite_names.proofs.reservations.reserve_objects.Goals as goal

pub loop-object-init : goal.loop-object-init
loop-object-init c = λ r h. subst (λ l. Holds c.args.taken.now l []) (sym (append-nil r)) h

pub loop-object-preserved : goal.loop-object-preserved
loop-object-preserved c = λ r h.
    let xs = c.args.objects.now in
    let i = c.loop-object.object-index in
    subst (λ l. Holds c.reserve.new.self l []) (mapped_reserved (λ (x : Object). x.name) xs r i c.object-item.result (c.all.result.now) c.loop-object-test.true c.object-item.is (c.all.ensures))
    (c.in_ok-reserve.ensures (r ++ map (λ x. x.name) (take i xs)) (c.loop-object.invariant r h))

pub returns : goal.returns
returns c = λ r h. subst (λ l. Holds c.loop-object.taken l []) (mapped_ends (λ (x : Object). x.name) c.args.objects.now r c.loop-object.object-index c.loop-object-test.false) (c.loop-object.invariant r h)
