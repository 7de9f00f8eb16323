-- Each label cuts what the labels before it have left.
use Rattle.std.proofs.Common.{◌≡◌, pos, get_or, arith, sym, subst}
use Rattle.cc_program.specs.CcNum.declared.op.BinOp.TheVariants as op
use Rattle.cc_rules_flows.specs.CcPlaces.laws.ListLaws.{item_in}
use Rattle.cc_rules_tests.proofs.Cuts.{all_cut, none_cut, one_cut}
use Rattle.cc_rules_tests.proofs.Following.{itself_at}
use Rattle.cc_rules_tests.proofs.Numbers.{cut_read}
use Rattle.cc_rules_flows.specs.CcStateOperators.Domains.{domain}
use Rattle.cc_rules_tests.proofs.tested.Tested.without_labels.Goals as goal

pub loop-n-init : goal.loop-n-init
loop-n-init g c =
    let x = c.args.x.now in
    let e : c.in_ok-left.left ≡ x = c.in_ok-left.ensures in
    (none_cut (domain g.I.Concrete.Has g.I.Lattice.IsBelow g.I.IntDomain.OpGives g.I.IntDomain.OpOneGives g.I.IntDomain.ToGives g.I.IntDomain.KeepGives g.I.IntDomain.members_of) c.args.self.now c.args.labels.now x c.in_ok-left.left e, subst (λ z. g.I.Lattice.IsBelow z x) (sym e) (g.met.I.Lattice.below_itself x (g.met.I.IntDomain.all_alike x x)))

pub loop-n-preserved : goal.loop-n-preserved
loop-n-preserved g c =
    let labels = c.args.labels.now in
    let x = c.args.x.now in
    let i = c.loop-n.n-index in
    let there = c.loop-n-test.true in
    let n = get_or labels i (pos 0) in
    let is = itself_at labels i (pos 0) there in
    let all = g.met.I.IntDomain.all_alike in (
      one_cut (domain g.I.Concrete.Has g.I.Lattice.IsBelow g.I.IntDomain.OpGives g.I.IntDomain.OpOneGives g.I.IntDomain.ToGives g.I.IntDomain.KeepGives g.I.IntDomain.members_of) c.args.self.now labels x c.loop-n.left c.without_label-left.result i n there is (cut_read (domain g.I.Concrete.Has g.I.Lattice.IsBelow g.I.IntDomain.OpGives g.I.IntDomain.OpOneGives g.I.IntDomain.ToGives g.I.IntDomain.KeepGives g.I.IntDomain.members_of) op.Ne n c.loop-n.left c.without_label-left.result (c.requires n (item_in labels i n there is)) c.without_label-left.ensures.cut) c.loop-n.invariant.0,
      g.met.I.Lattice.below_through c.without_label-left.result c.loop-n.left x (all _ _) (all _ _) (all _ _) c.without_label-left.ensures.below c.loop-n.invariant.1,
    )

pub returns-clause-cut : goal.returns-clause-cut
returns-clause-cut g c = all_cut (domain g.I.Concrete.Has g.I.Lattice.IsBelow g.I.IntDomain.OpGives g.I.IntDomain.OpOneGives g.I.IntDomain.ToGives g.I.IntDomain.KeepGives g.I.IntDomain.members_of) c.args.self.now c.args.labels.now c.args.x.now c.loop-n.left c.loop-n.n-index (omega (arith, c.loop-n-test.false)) c.loop-n.invariant.0

pub returns-clause-below : goal.returns-clause-below
returns-clause-below g c = c.loop-n.invariant.1
