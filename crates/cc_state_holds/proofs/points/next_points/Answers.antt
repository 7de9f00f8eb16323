-- Point by point.
use Rattle.std.proofs.Common.{arith, List, [], ℕ, get_or, take, sym, subst}
use Rattle.std.proofs.lemmas.List.{take_more, take_all}
use Rattle.cc_state_holds.proofs.Counted.{AreNextOf, next_none, next_more}
use Rattle.cc_state_holds.proofs.points.next_points.Goals as goal

pub loop-m-init : goal.loop-m-init
loop-m-init c = subst (λ (ns : List ℕ). AreNextOf c.args.flow.now ns []) (sym c.new-all.ensures.items) (next_none c.args.flow.now)

pub loop-m-preserved : goal.loop-m-preserved
loop-m-preserved c =
    let xs = c.args.points.now in
    subst (AreNextOf c.args.flow.now c.in_ok-all.all.items) (sym (take_more xs c.loop-m.m-index 0 c.loop-m-test.true))
    (next_more c.args.flow.now (take c.loop-m.m-index xs) c.loop-m.all.items c.in_ok-all.all.items (get_or xs c.loop-m.m-index 0) c.loop-m.invariant c.in_ok-all.ensures)

pub returns : goal.returns
returns c =
    let xs = c.args.points.now in
    subst (AreNextOf c.args.flow.now c.loop-m.all.items) (take_all c.loop-m.m-index xs (omega (arith, c.loop-m-test.false))) c.loop-m.invariant
