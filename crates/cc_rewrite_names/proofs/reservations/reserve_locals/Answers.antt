use Rattle.std.proofs.Common.{[], ◌++◌, ap, take, subst, sym}
use Rattle.std.specs.List.{flat_map}
use Rattle.std.proofs.lemmas.List.{append-nil}
use Rattle.cc_program.specs.declared.func.Func.{Func}
use Rattle.cc_names.specs.Holds.{Holds}
use Rattle.cc_syntax.specs.Names.{local_names}
use Rattle.cc_lower_numbers.proofs.Reservations.{flat_reserved, flat_ends}
use Rattle.cc_rewrite_names.proofs.reservations.reserve_locals.Goals as goal

pub loop-f-init : goal.loop-f-init
loop-f-init c = λ r h. subst (λ l. Holds c.args.taken.now l []) (sym (append-nil r)) h

pub loop-f-preserved : goal.loop-f-preserved
loop-f-preserved c = λ r h.
    let xs = c.args.funcs.now in
    let i = c.loop-f.f-index in
    subst (λ l. Holds c.reserve_named.new.taken l []) (flat_reserved (λ (x : Func). local_names x.locals) xs r i c.f-item.result (local_names c.all.result.now) c.loop-f-test.true c.f-item.is (ap local_names c.all.ensures))
    (c.in_ok-reserve_named.ensures (r ++ flat_map (λ x. local_names x.locals) (take i xs)) (c.loop-f.invariant r h))

pub returns : goal.returns
returns c = λ r h. subst (λ l. Holds c.loop-f.taken l []) (flat_ends (λ (x : Func). local_names x.locals) c.args.funcs.now r c.loop-f.f-index c.loop-f-test.false) (c.loop-f.invariant r h)
