-- One number after the other.
use Rattle.std.proofs.Common.{pos, get_or, arith, ⊎_elim, sym, subst}
use Rattle.std.specs.List.{Contains}
use Rattle.cc_rules_flows.specs.CcLattice.Domains.{IsIntValue}
use Rattle.cc_rules_flows.specs.CcPlaces.laws.ListLaws.{all_taken, item_in, none_in, taken_cases}
use Rattle.cc_rules_tests.specs.Trials.{HasOne}
use Rattle.cc_rules_tests.proofs.Following.{int_same, itself_at}
use Rattle.cc_rules_tests.proofs.Least.{hull_one, number_read}
use Rattle.cc_rules_flows.specs.CcStateOperators.Domains.{domain}
use Rattle.cc_rules_tests.proofs.members.have_ones.Goals as goal

pub loop-m-init : goal.loop-m-init
loop-m-init g c = λ m k. absurd (none_in m k)

pub one-one-requires : goal.one-one-requires
one-one-requires g c =
    let numbers = c.args.numbers.now in
    let i = c.loop-m.m-index in
    let there = c.loop-m-test.true in
    let m = get_or numbers i (pos 0) in
    let h = c.requires.numbers m (item_in numbers i m there (itself_at numbers i (pos 0) there)) in
    subst IsIntValue (sym (int_same m h)) h

pub loop-m-preserved : goal.loop-m-preserved
loop-m-preserved g c =
    let d = (domain g.I.Concrete.Has g.I.Lattice.IsBelow g.I.IntDomain.OpGives g.I.IntDomain.OpOneGives g.I.IntDomain.ToGives g.I.IntDomain.KeepGives g.I.IntDomain.members_of) in
    let numbers = c.args.numbers.now in
    let i = c.loop-m.m-index in
    let there = c.loop-m-test.true in
    let m = get_or numbers i (pos 0) in
    let is = itself_at numbers i (pos 0) there in
    let made = c.one-one.ensures in
    let one = c.one-one.result in
    let hull = hull_one d m one (number_read d m one (c.requires.numbers m (item_in numbers i m there is)) made.has made.least) in
    λ n k. ⊎_elim (c.loop-m.invariant n) (λ e. subst (λ z. HasOne d z) e (one, hull)) (taken_cases numbers i m n there is k)

pub returns : goal.returns
returns g c = λ m k. c.loop-m.invariant m (subst (λ xs. Contains xs m) (sym (all_taken c.args.numbers.now c.loop-m.m-index (omega (arith, c.loop-m-test.false)))) k)
