-- With the register at any member the expression gives what it gives.
use Rattle.std.proofs.Common.{◌≡◌, true, ℤ, sym, subst}
use Rattle.std.specs.List.{Contains}
use Rattle.std.proofs.lemmas.Result.{IfOk-weaker}
use Rattle.cc_rules_flows.specs.CcPlaces.Abstract.{IsBelowAbs}
use Rattle.cc_rules_flows.specs.CcPlaces.laws.AbstractLaws.{abs_itself}
use Rattle.cc_rules_tests.specs.Tested.{IsWorkedAt, StaysIn}
use Rattle.cc_rules_tests.specs.Trials.{IsGivenAt}
use Rattle.cc_rules_tests.proofs.Explicit.{below_some, left_all, left_some, worked_all}
use Rattle.cc_rules_tests.proofs.Least.{hull_none}
use Rattle.cc_rules_tests.proofs.Registers.{copy_below}
use Rattle.cc_rules_tests.proofs.Staying.{StayOf, held_int, stays_back, stays_on, worked_on}
use Rattle.cc_rules_tests.proofs.Unread.{given_unread}
use Rattle.cc_rules_flows.specs.CcStateOperators.Domains.{domain, IsHull}
use Rattle.cc_rules_flows.proofs.CcStateValues.Same.{order_of}
use Rattle.cc_rules_flows.specs.CcStateValues.Contexts.{IsValIn}
use Rattle.cc_rules_tests.proofs.tested.Tested.of_unread.Goals as goal

pub have_ones-requires : goal.have_ones-requires
have_ones-requires g c = record { numbers = held_int (domain g.I.Concrete.Has g.I.Lattice.IsBelow g.I.IntDomain.OpGives g.I.IntDomain.OpOneGives g.I.IntDomain.ToGives g.I.IntDomain.KeepGives g.I.IntDomain.members_of) c.args.self.now.context.now c.args.r c.args.members.now c.requires.holds }

pub passes-requires : goal.passes-requires
passes-requires g c = c.requires.tested.labels

pub returns-then-passes : goal.returns-then-passes
returns-then-passes g c =
    let d = (domain g.I.Concrete.Has g.I.Lattice.IsBelow g.I.IntDomain.OpGives g.I.IntDomain.OpOneGives g.I.IntDomain.ToGives g.I.IntDomain.KeepGives g.I.IntDomain.members_of) in
    let l = g.met.I.Lattice in
    let i = g.met.I.IntDomain in
    let t = c.args.self.now in
    let r = c.args.r in
    let y = c.args.y.now in
    let members = c.args.members.now in
    let whole = c.whole.result.now in
    let value = subst (λ v. IsValIn d t.context.now t.expression.now v) (sym c.whole.ensures) c.requires.trial.whole in
    let given : (m : ℤ) → Contains members m → IsGivenAt d t.context.now t.expression.now r m whole = λ m k. let one = c.have_ones.ensures m k in given_unread d t.context.now t.expression.now r m one.0 whole c.requires.unread one.1 value in
    let ordered = order_of d g.I.Lattice.AreAlike i.all_alike l.below_itself l.below_both_ways i.op_grows i.op_one_grows i.to_grows i.members_below in
    let each : (m : ℤ) → Contains members m → StaysIn d t r m = λ m k. stays_on d t ordered r m whole (given m k) (c.passes.ensures.0 c.if-passes.true) in
    let worked : (m : ℤ) → Contains members m → IsWorkedAt d t r m = λ m k. worked_on d t r m whole (given m k) in
    record {
      left = IfOk-weaker c.share.result _ _ (λ z e. left_all d t r y members i.members_all z i.members_below c.requires.members each e) c.share.ensures;
      below = IfOk-weaker c.share.result _ _ (λ z e. copy_below (IsBelowAbs g.I.Lattice.IsBelow) y z (abs_itself g.I.Lattice.AreAlike g.I.Lattice.IsBelow l.below_itself i.all_alike y) e) c.share.ensures;
      worked = IfOk-weaker c.share.result _ _ (λ z e. worked_all d t r y members i.members_all c.requires.members worked) c.share.ensures;
    }

pub returns : goal.returns
returns g c =
    let d = (domain g.I.Concrete.Has g.I.Lattice.IsBelow g.I.IntDomain.OpGives g.I.IntDomain.OpOneGives g.I.IntDomain.ToGives g.I.IntDomain.KeepGives g.I.IntDomain.members_of) in
    let i = g.met.I.IntDomain in
    let t = c.args.self.now in
    let r = c.args.r in
    let y = c.args.y.now in
    let members = c.args.members.now in
    let whole = c.whole.result.now in
    let value = subst (λ v. IsValIn d t.context.now t.expression.now v) (sym c.whole.ensures) c.requires.trial.whole in
    let given : (m : ℤ) → Contains members m → IsGivenAt d t.context.now t.expression.now r m whole = λ m k. let one = c.have_ones.ensures m k in given_unread d t.context.now t.expression.now r m one.0 whole c.requires.unread one.1 value in
    let gone : (m : ℤ) → StayOf d t r members m → ⊥ = λ m k. let e : c.passes.result ≡ true = c.passes.ensures.1 (stays_back d t r m whole (given m k.0) k.1) in absurd (cc) in
    let hull : IsHull d (StayOf d t r members) c.none-left.result = hull_none d (StayOf d t r members) c.none-left.result gone c.none-left.ensures.least in
    let worked : (m : ℤ) → Contains members m → IsWorkedAt d t r m = λ m k. worked_on d t r m whole (given m k) in
    record {
      left = IfOk-weaker c.new.result _ _ (λ z e. left_some d t r y members i.members_all c.none-left.result z c.requires.members hull e) c.new.ensures;
      below = IfOk-weaker c.new.result _ _ (λ z e. below_some d t r y members i.members_all c.none-left.result z c.requires.members hull e) c.new.ensures;
      worked = IfOk-weaker c.new.result _ _ (λ z e. worked_all d t r y members i.members_all c.requires.members worked) c.new.ensures;
    }
