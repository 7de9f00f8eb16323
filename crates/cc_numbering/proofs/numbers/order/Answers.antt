use Rattle.std.proofs.Common.{arith, ◌≡◌, ◌∙◌, ◌≤◌, ◌++◌, List, ℕ, length, ap}
use Rattle.cc_scopes.specs.View.{state_of, known_of}
use Rattle.cc_numbering.proofs.Order.{open_from, order-is, order-all, order-more}
use Rattle.cc_numbering.proofs.numbers.order.Goals as goal

pub returns : goal.returns
unfolding state_of known_of
returns c =
    let past : length c.as_slice-standings.result.now ≤ c.loop-i.i = omega arith in
    let first : c.loop-i.order.items ≡ open_from 0 c.args.state.now.structures.standings.items =
    order-all c.loop-i.order.items c.as_slice-standings.result.now c.loop-i.i (open_from 0 c.as_slice-standings.result.now) past c.loop-i.invariant ∙ ap (open_from 0) c.as_slice-standings.ensures.value in
    order-is c.extend_from_slice.new.self.items c.loop-i.order.items c.args.state.now.structures.all.items c.args.state.now.structures.standings.items c.args.state.now.structures.layouts.items c.args.state.now.structures.completed.items c.args.state.now.structures.kept first
    (c.in_ok-extend_from_slice.ensures.items ∙ ap (λ (xs : List ℕ). c.loop-i.order.items ++ xs) c.as_slice.ensures.value)

pub loop-i-preserved : goal.loop-i-preserved
loop-i-preserved c =
    let standings = c.as_slice-standings.result.now in
    order-more c.loop-i.order.items c.put_open.new.numbers.items standings c.loop-i.i c.index-standings-i.result (open_from 0 standings) c.loop-i-test.true c.index-standings-i.is c.in_ok-put_open.ensures c.loop-i.invariant
