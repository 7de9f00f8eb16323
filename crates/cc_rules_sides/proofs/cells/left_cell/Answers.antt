-- One register after the other.
use Rattle.std.proofs.Common.{arith, get_or}
use Rattle.std.proofs.lemmas.Option.{slice_get-get_or}
use Rattle.cc_rules_sides.proofs.CellLemmas.{all_on, none_left, one_on}
use Rattle.cc_rules_tests.proofs.Following.{itself_at}
use Rattle.cc_rules_flows.specs.CcStateOperators.Domains.{domain}
use Rattle.cc_rules_flows.proofs.CcStateValues.Same.{order_of}
use Rattle.cc_rules_sides.proofs.cells.left_cell.Goals as goal

pub loop-number-init : goal.loop-number-init
loop-number-init g c =
    let l = g.met.I.Lattice in
    let i = g.met.I.IntDomain in
    let d = (domain g.I.Concrete.Has g.I.Lattice.IsBelow g.I.IntDomain.OpGives g.I.IntDomain.OpOneGives g.I.IntDomain.ToGives g.I.IntDomain.KeepGives g.I.IntDomain.members_of) in
    let o = order_of d g.I.Lattice.AreAlike i.all_alike l.below_itself l.below_both_ways i.op_grows i.op_one_grows i.to_grows i.members_below in
    (c.requires.trial, none_left d o i.keep_grows c.args.tested.now c.args.set.now c.in_ok-left.left c.in_ok-left.ensures)

pub left_more-requires : goal.left_more-requires
left_more-requires g c =
    let registers = c.args.tested.now.context.now.registers.now in
    let i = c.loop-number.number in
    record { tested = c.requires.tested; trial = c.loop-number.invariant.0; register = c.requires.registers i (get_or registers i 0) (slice_get-get_or registers i 0 c.loop-number-test.true) }

pub loop-number-preserved : goal.loop-number-preserved
loop-number-preserved g c =
    let l = g.met.I.Lattice in
    let j = g.met.I.IntDomain in
    let d = (domain g.I.Concrete.Has g.I.Lattice.IsBelow g.I.IntDomain.OpGives g.I.IntDomain.OpOneGives g.I.IntDomain.ToGives g.I.IntDomain.KeepGives g.I.IntDomain.members_of) in
    let o = order_of d g.I.Lattice.AreAlike j.all_alike l.below_itself l.below_both_ways j.op_grows j.op_one_grows j.to_grows j.members_below in
    let t = c.args.tested.now in
    let registers = t.context.now.registers.now in
    let i = c.loop-number.number in
    let there = c.loop-number-test.true in (
      c.left_more.ensures.trial,
      one_on d o j.keep_grows t c.args.fact.now c.args.cell i (get_or registers i 0) c.args.set.now c.loop-number.left c.in_ok-left-2.left c.is_pair-is_equal.result there (itself_at registers i 0 there) c.is_pair-is_equal.ensures c.loop-number.invariant.1 c.in_ok-left-2.ensures.left,
    )

pub returns-clause-left : goal.returns-clause-left
returns-clause-left g c =
    let l = g.met.I.Lattice in
    let i = g.met.I.IntDomain in
    let d = (domain g.I.Concrete.Has g.I.Lattice.IsBelow g.I.IntDomain.OpGives g.I.IntDomain.OpOneGives g.I.IntDomain.ToGives g.I.IntDomain.KeepGives g.I.IntDomain.members_of) in
    let o = order_of d g.I.Lattice.AreAlike i.all_alike l.below_itself l.below_both_ways i.op_grows i.op_one_grows i.to_grows i.members_below in
    all_on d o i.keep_grows c.args.tested.now c.args.fact.now c.args.cell c.loop-number.number c.args.set.now c.loop-number.left (omega (arith, c.loop-number-test.false)) c.loop-number.invariant.1
