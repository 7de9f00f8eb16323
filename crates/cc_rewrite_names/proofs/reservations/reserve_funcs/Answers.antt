use Rattle.std.proofs.Common.{[], ◌++◌, take, map, subst, sym}
use Rattle.std.proofs.lemmas.List.{append-nil}
use Rattle.cc_program.specs.declared.func.Func.{Func}
use Rattle.cc_names.specs.Holds.{Holds}
use Rattle.cc_lower_numbers.proofs.Reservations.{mapped_reserved, mapped_ends}
use Rattle.cc_rewrite_names.proofs.reservations.reserve_funcs.Goals as goal

pub loop-f-init : goal.loop-f-init
loop-f-init c = λ r h. subst (λ l. Holds c.args.taken.now l []) (sym (append-nil r)) h

pub loop-f-preserved : goal.loop-f-preserved
loop-f-preserved c = λ r h.
    let xs = c.args.funcs.now in
    let i = c.loop-f.f-index in
    subst (λ l. Holds c.reserve.new.self l []) (mapped_reserved (λ (x : Func). x.name) xs r i c.f-item.result (c.all.result.now) c.loop-f-test.true c.f-item.is (c.all.ensures))
    (c.in_ok-reserve.ensures (r ++ map (λ x. x.name) (take i xs)) (c.loop-f.invariant r h))

pub returns : goal.returns
returns c = λ r h. subst (λ l. Holds c.loop-f.taken l []) (mapped_ends (λ (x : Func). x.name) c.args.funcs.now r c.loop-f.f-index c.loop-f-test.false) (c.loop-f.invariant r h)
