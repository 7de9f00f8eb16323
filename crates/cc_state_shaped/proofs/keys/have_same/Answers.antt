use Rattle.std.proofs.Common.{arith, ◌<◌, length, refl, below_more}
use Rattle.cc_state_shaped.specs.Names.{HaveSame}
use Rattle.cc_state_shaped.proofs.keys.have_same.Goals as goal

pub loop-number-preserved : goal.loop-number-preserved
loop-number-preserved c = below_more (HaveSame c.args.keys.now c.args.others.now) c.loop-number.number c.loop-number.invariant (c.if-not-has_same.ensures.0 refl)

pub returns-then-not-has_same : goal.returns-then-not-has_same
returns-then-not-has_same c =
    let l : c.loop-number.number < length c.args.keys.now = omega (arith, c.loop-number-test.true) in
    ((λ e. absurd (cc)), (λ h. c.if-not-has_same.ensures.1 (h c.loop-number.number l)))

pub returns : goal.returns
returns c = ((λ e n l. c.loop-number.invariant n (omega (arith, c.loop-number-test.false, l))), (λ h. refl))
