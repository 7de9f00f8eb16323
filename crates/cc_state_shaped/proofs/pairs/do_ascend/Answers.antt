-- Each pair so far is before the later ones; at the end these are all.
use Rattle.std.proofs.Common.{arith, ◌<◌, ◌-◌, length, refl}
use Rattle.cc_state_shaped.proofs.Filled.{ascend_more, ascend_all, read_pairs}
use Rattle.cc_state_shaped.proofs.pairs.do_ascend.Goals as goal

pub loop-number-preserved : goal.loop-number-preserved
loop-number-preserved c =
    let n = c.loop-number.number in
    let l : n < length c.args.pairs.now = omega (arith, c.loop-number-test.true) in
    ascend_more c.args.pairs.now n c.loop-number.invariant (read_pairs c.args.pairs.now n l (c.if-not-is_before.ensures.0 refl))

pub returns-then-not-is_before : goal.returns-then-not-is_before
returns-then-not-is_before c =
    let n = c.loop-number.number in
    let l : n < length c.args.pairs.now = omega (arith, c.loop-number-test.true) in
    let first : n - 1 < n = omega arith in
    ((λ e. absurd (cc)), (λ h. c.if-not-is_before.ensures.1 (h (n - 1) n (0, 0) first l)))

pub returns : goal.returns
returns c = ((λ e. ascend_all c.args.pairs.now c.loop-number.number (omega (arith, c.loop-number-test.false)) c.loop-number.invariant), (λ h. refl))
