-- Number by number.
use Rattle.std.proofs.Common.{[], pos, get_or, arith, sym, subst}
use Rattle.cc_rules_flows.specs.CcPlaces.laws.ListLaws.{all_taken}
use Rattle.cc_rules_tests.specs.Trials.{AreGivenAt, IsGivenAt}
use Rattle.cc_rules_tests.proofs.Following.{itself_at}
use Rattle.cc_rules_tests.proofs.Staying.{item_held}
use Rattle.cc_rules_tests.proofs.Zips.{zip_more}
use Rattle.cc_rules_flows.specs.CcStateOperators.Domains.{domain}
use Rattle.cc_rules_tests.proofs.changed.Changed.values_at.Goals as goal

pub loop-m-init : goal.loop-m-init
loop-m-init g c = (c.requires.changed, subst (λ ys. AreGivenAt (domain g.I.Concrete.Has g.I.Lattice.IsBelow g.I.IntDomain.OpGives g.I.IntDomain.OpOneGives g.I.IntDomain.ToGives g.I.IntDomain.KeepGives g.I.IntDomain.members_of) c.args.c.now c.args.e.now c.args.r [] ys) (sym c.new-values.ensures.items) tt)

pub value_at-requires : goal.value_at-requires
value_at-requires g c =
    let numbers = c.args.numbers.now in
    let i = c.loop-m.m-index in
    let there = c.loop-m-test.true in
    record {
      sized = c.requires.sized;
      sets = c.requires.sets;
      pure = c.requires.pure;
      changed = c.loop-m.invariant.0;
      holds = item_held (domain g.I.Concrete.Has g.I.Lattice.IsBelow g.I.IntDomain.OpGives g.I.IntDomain.OpOneGives g.I.IntDomain.ToGives g.I.IntDomain.KeepGives g.I.IntDomain.members_of) c.args.c.now c.args.r numbers i (get_or numbers i (pos 0)) there (itself_at numbers i (pos 0) there) c.requires.holds;
    }

pub loop-m-preserved : goal.loop-m-preserved
loop-m-preserved g c =
    let d = (domain g.I.Concrete.Has g.I.Lattice.IsBelow g.I.IntDomain.OpGives g.I.IntDomain.OpOneGives g.I.IntDomain.ToGives g.I.IntDomain.KeepGives g.I.IntDomain.members_of) in
    let numbers = c.args.numbers.now in
    let i = c.loop-m.m-index in
    let there = c.loop-m-test.true in
    let given = IsGivenAt d c.args.c.now c.args.e.now c.args.r in
    (c.value_at.ensures.changed, zip_more given numbers c.loop-m.values.items _ i (pos 0) c.in_ok-value.value there c.loop-m.invariant.1 c.in_ok-value.ensures.given c.in_ok-push.ensures.items)

pub returns-clause-given : goal.returns-clause-given
returns-clause-given g c = subst (λ ms. AreGivenAt (domain g.I.Concrete.Has g.I.Lattice.IsBelow g.I.IntDomain.OpGives g.I.IntDomain.OpOneGives g.I.IntDomain.ToGives g.I.IntDomain.KeepGives g.I.IntDomain.members_of) c.args.c.now c.args.e.now c.args.r ms c.loop-m.values.items) (all_taken c.args.numbers.now c.loop-m.m-index (omega (arith, c.loop-m-test.false))) c.loop-m.invariant.1
