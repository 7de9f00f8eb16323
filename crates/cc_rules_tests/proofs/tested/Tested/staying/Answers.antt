-- Number by number, by what was given at each.
use Rattle.std.proofs.Common.{pos, get_or, arith, sym, subst}
use Rattle.cc_rules_flows.specs.CcPlaces.laws.ListLaws.{all_taken}
use Rattle.cc_rules_tests.specs.Tested.{MayHoldEach}
use Rattle.cc_rules_tests.specs.Trials.{AreGivenAt, IsGivenAt}
use Rattle.cc_rules_tests.proofs.Following.{itself_at}
use Rattle.cc_rules_tests.proofs.Least.{order_of}
use Rattle.cc_rules_tests.proofs.Staying.{StayOf, item_held, none_yet, one_int, one_more}
use Rattle.cc_rules_tests.proofs.Zips.{zip_item, zip_long}
use Rattle.cc_rules_flows.specs.CcStateOperators.Domains.{domain, IsHull}
use Rattle.cc_rules_flows.proofs.CcStateValues.Same.{order_of as all_ordered}
use Rattle.cc_rules_tests.proofs.tested.Tested.staying.Goals as goal

pub loop-at-init : goal.loop-at-init
loop-at-init g c =
    let d = (domain g.I.Concrete.Has g.I.Lattice.IsBelow g.I.IntDomain.OpGives g.I.IntDomain.OpOneGives g.I.IntDomain.ToGives g.I.IntDomain.KeepGives g.I.IntDomain.members_of) in
    let o = order_of d g.I.Lattice.AreAlike g.met.I.IntDomain.all_alike g.met.I.Lattice.below_itself g.met.I.Lattice.below_through g.met.I.IntDomain.below_has in
    none_yet d c.args.self.now g.I.Lattice.AreAlike g.met.I.IntDomain.all_alike o c.args.tried.now.register c.none-left.result c.none-left.ensures.least

pub bounds-values-at : goal.bounds-values-at
bounds-values-at g c =
    let t = c.args.self.now in
    let given = AreGivenAt (domain g.I.Concrete.Has g.I.Lattice.IsBelow g.I.IntDomain.OpGives g.I.IntDomain.OpOneGives g.I.IntDomain.ToGives g.I.IntDomain.KeepGives g.I.IntDomain.members_of) t.context.now t.expression.now c.args.tried.now.register in
    let h = subst (λ ns. given ns c.as_slice-values.result.now) (sym c.as_slice-numbers.ensures.value) (subst (λ ys. given c.args.tried.now.numbers.items ys) (sym c.as_slice-values.ensures.value) c.requires.tried) in
    let same = zip_long (IsGivenAt (domain g.I.Concrete.Has g.I.Lattice.IsBelow g.I.IntDomain.OpGives g.I.IntDomain.OpOneGives g.I.IntDomain.ToGives g.I.IntDomain.KeepGives g.I.IntDomain.members_of) t.context.now t.expression.now c.args.tried.now.register) _ _ h in
    let there = c.loop-at-test.true in
    omega (arith, same, there)

pub offset_bounds-values-at : goal.offset_bounds-values-at
offset_bounds-values-at g c =
    let t = c.args.self.now in
    let given = AreGivenAt (domain g.I.Concrete.Has g.I.Lattice.IsBelow g.I.IntDomain.OpGives g.I.IntDomain.OpOneGives g.I.IntDomain.ToGives g.I.IntDomain.KeepGives g.I.IntDomain.members_of) t.context.now t.expression.now c.args.tried.now.register in
    let h = subst (λ ns. given ns c.as_slice-values.result.now) (sym c.as_slice-numbers.ensures.value) (subst (λ ys. given c.args.tried.now.numbers.items ys) (sym c.as_slice-values.ensures.value) c.requires.tried) in
    let same = zip_long (IsGivenAt (domain g.I.Concrete.Has g.I.Lattice.IsBelow g.I.IntDomain.OpGives g.I.IntDomain.OpOneGives g.I.IntDomain.ToGives g.I.IntDomain.KeepGives g.I.IntDomain.members_of) t.context.now t.expression.now c.args.tried.now.register) _ _ h in
    let there = c.loop-at-test.true in
    omega (arith, same, there)

pub with_number-requires : goal.with_number-requires
with_number-requires g c =
    let d = (domain g.I.Concrete.Has g.I.Lattice.IsBelow g.I.IntDomain.OpGives g.I.IntDomain.OpOneGives g.I.IntDomain.ToGives g.I.IntDomain.KeepGives g.I.IntDomain.members_of) in
    let t = c.args.self.now in
    let r = c.args.tried.now.register in
    let numbers = c.as_slice-numbers.result.now in
    let i = c.loop-at.at in
    let there = c.loop-at-test.true in
    let holds = subst (λ ns. MayHoldEach d t.context.now r ns) (sym c.as_slice-numbers.ensures.value) c.requires.holds in
    record { labels = c.requires.tested.labels; number = one_int d t.context.now r (get_or numbers i (pos 0)) (item_held d t.context.now r numbers i (get_or numbers i (pos 0)) there (itself_at numbers i (pos 0) there) holds) }

pub loop-at-preserved : goal.loop-at-preserved
loop-at-preserved g c =
    let l = g.met.I.Lattice in
    let j = g.met.I.IntDomain in
    let d = (domain g.I.Concrete.Has g.I.Lattice.IsBelow g.I.IntDomain.OpGives g.I.IntDomain.OpOneGives g.I.IntDomain.ToGives g.I.IntDomain.KeepGives g.I.IntDomain.members_of) in
    let o = order_of d g.I.Lattice.AreAlike j.all_alike l.below_itself l.below_through j.below_has in
    let ordered = all_ordered d g.I.Lattice.AreAlike j.all_alike l.below_itself l.below_both_ways j.op_grows j.op_one_grows j.to_grows j.members_below in
    let t = c.args.self.now in
    let r = c.args.tried.now.register in
    let numbers = c.as_slice-numbers.result.now in
    let values = c.as_slice-values.result.now in
    let i = c.loop-at.at in
    let there = c.loop-at-test.true in
    let given = AreGivenAt d t.context.now t.expression.now r in
    let h = subst (λ ns. given ns values) (sym c.as_slice-numbers.ensures.value) (subst (λ ys. given c.args.tried.now.numbers.items ys) (sym c.as_slice-values.ensures.value) c.requires.tried) in
    let m = get_or numbers i (pos 0) in
    let v = c.index-values-at.result in
    let here = zip_item (IsGivenAt d t.context.now t.expression.now r) numbers values i (pos 0) v h there c.index-values-at.is in
    one_more d t g.I.Lattice.AreAlike j.all_alike o r ordered numbers i m v c.loop-at.left c.in_ok-left.left there (itself_at numbers i (pos 0) there) here c.loop-at.invariant c.in_ok-left.ensures

pub returns : goal.returns
returns g c =
    let d = (domain g.I.Concrete.Has g.I.Lattice.IsBelow g.I.IntDomain.OpGives g.I.IntDomain.OpOneGives g.I.IntDomain.ToGives g.I.IntDomain.KeepGives g.I.IntDomain.members_of) in
    let t = c.args.self.now in
    let r = c.args.tried.now.register in
    let numbers = c.as_slice-numbers.result.now in
    let all = subst (λ ns. IsHull d (StayOf d t r ns) c.loop-at.left) (all_taken numbers c.loop-at.at (omega (arith, c.loop-at-test.false))) c.loop-at.invariant in
    subst (λ ns. IsHull d (StayOf d t r ns) c.loop-at.left) c.as_slice-numbers.ensures.value all
