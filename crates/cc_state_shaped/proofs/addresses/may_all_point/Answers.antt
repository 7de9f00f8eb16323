use Rattle.std.proofs.Common.{arith, refl, sym, subst}
use Rattle.std.specs.List.{All}
use Rattle.std.proofs.lemmas.List.{take_all}
use Rattle.std.proofs.lemmas.List.Elements.{All-more}
use Rattle.cc_state.specs.Shape.{MayPoint}
use Rattle.cc_state_shaped.proofs.addresses.may_all_point.Goals as goal
use Rattle.cc_state_reads.specs.CcTyped.View.{value_view}

pub loop-address-preserved : goal.loop-address-preserved
loop-address-preserved c =
    let P = MayPoint c.args.layout.now.program.now (value_view c.args.to) in
    let xs = c.args.addresses.now in
    let n = c.loop-address.address-index in
    let y = c.address-item.result in
    All-more P xs n y (omega (arith, c.loop-address-test.true)) c.loop-address.invariant (subst P c.address-item.is (c.if-not-may_point.ensures.0 refl))

pub returns-then-not-may_point : goal.returns-then-not-may_point
returns-then-not-may_point c =
    let P = MayPoint c.args.layout.now.program.now (value_view c.args.to) in
    let n = c.loop-address.address-index in
    let y = c.address-item.result in
    ((λ e. absurd (cc)), (λ h. c.if-not-may_point.ensures.1 (subst P (sym c.address-item.is) (h n y (omega (arith, c.loop-address-test.true))))))

pub returns : goal.returns
returns c =
    let P = MayPoint c.args.layout.now.program.now (value_view c.args.to) in
    let xs = c.args.addresses.now in
    ((λ e. subst (All P) (take_all c.loop-address.address-index xs (omega (arith, c.loop-address-test.false))) c.loop-address.invariant), (λ h. refl))
