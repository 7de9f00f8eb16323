-- All members where the test passes with what is given at each, else those that stay.
use Rattle.std.proofs.Common.{ℤ, ap, sym, subst, ◌∙◌}
use Rattle.std.specs.List.{Contains}
use Rattle.std.proofs.lemmas.Result.{IfOk-weaker}
use Rattle.cc_rules_flows.specs.CcPlaces.Abstract.{IsBelowAbs}
use Rattle.cc_rules_flows.specs.CcPlaces.laws.AbstractLaws.{abs_itself}
use Rattle.cc_rules_tests.specs.Tested.{MayHoldEach, StaysIn}
use Rattle.cc_rules_tests.specs.Trials.{IsGivenAt, IsTried}
use Rattle.cc_rules_tests.specs.declared.tried.Tried.{Tried}
use Rattle.cc_rules_tests.proofs.Explicit.{below_some, given_of, held_of, hull_of, left_all, left_some, worked_all, worked_given}
use Rattle.cc_rules_tests.proofs.Registers.{copy_below}
use Rattle.cc_rules_tests.proofs.Staying.{StayOf, stays_on}
use Rattle.cc_rules_tests.proofs.Zips.{zip_in}
use Rattle.cc_rules_flows.specs.CcStateOperators.Domains.{domain, IsHull}
use Rattle.cc_rules_flows.proofs.CcStateValues.Same.{order_of}
use Rattle.cc_rules_tests.proofs.tested.Tested.of_read.Goals as goal

pub tried-requires : goal.tried-requires
tried-requires g c = record {
  sized = c.requires.tested.sized;
  sets = c.requires.tested.known;
  pure = c.requires.tested.pure;
  trial = c.requires.trial;
  holds = c.requires.holds;
}

pub all_pass-requires : goal.all_pass-requires
all_pass-requires g c = c.requires.tested.labels

pub returns-then-all_pass : goal.returns-then-all_pass
returns-then-all_pass g c =
    let d = (domain g.I.Concrete.Has g.I.Lattice.IsBelow g.I.IntDomain.OpGives g.I.IntDomain.OpOneGives g.I.IntDomain.ToGives g.I.IntDomain.KeepGives g.I.IntDomain.members_of) in
    let l = g.met.I.Lattice in
    let i = g.met.I.IntDomain in
    let t = c.args.self.now in
    let r = c.args.r in
    let y = c.args.y.now in
    let members = c.args.members.now in
    let values = c.in_ok-tried.tried.values.items in
    let same = c.as_slice.ensures.value ∙ ap (λ (z : Tried g.row.I.Denot). z.values.items) c.get-given.ensures in
    let given = given_of d t.context.now t.expression.now r members c.in_ok-tried.tried c.in_ok-tried.ensures.at c.in_ok-tried.ensures.tried in
    let ordered = order_of d g.I.Lattice.AreAlike i.all_alike l.below_itself l.below_both_ways i.op_grows i.op_one_grows i.to_grows i.members_below in
    let each : (m : ℤ) → Contains members m → StaysIn d t r m = λ m k.
    let w = zip_in (IsGivenAt d t.context.now t.expression.now r) members values m given k in
    stays_on d t ordered r m w.0 w.2 (c.all_pass.ensures.0 c.if-all_pass.true w.0 (subst (λ ys. Contains ys w.0) (sym same) w.1)) in
    record {
      trial = c.tried.ensures.trial;
      left = IfOk-weaker c.share.result _ _ (λ z e. left_all d t r y members i.members_all z i.members_below c.requires.members each e) c.share.ensures;
      below = IfOk-weaker c.share.result _ _ (λ z e. copy_below (IsBelowAbs g.I.Lattice.IsBelow) y z (abs_itself g.I.Lattice.AreAlike g.I.Lattice.IsBelow l.below_itself i.all_alike y) e) c.share.ensures;
      worked = IfOk-weaker c.share.result _ _ (λ z e. worked_all d t r y members i.members_all c.requires.members (worked_given d t r members values given)) c.share.ensures;
    }

pub staying-requires : goal.staying-requires
staying-requires g c =
    let d = (domain g.I.Concrete.Has g.I.Lattice.IsBelow g.I.IntDomain.OpGives g.I.IntDomain.OpOneGives g.I.IntDomain.ToGives g.I.IntDomain.KeepGives g.I.IntDomain.members_of) in
    let t = c.args.self.now in
    let made = c.in_ok-tried.tried in
    record {
      tested = c.requires.tested;
      tried = subst (λ z. IsTried d t.context.now t.expression.now z) (sym c.get-given.ensures) c.in_ok-tried.ensures.tried;
      holds = subst (λ (z : Tried g.row.I.Denot). MayHoldEach d t.context.now z.register z.numbers.items) (sym c.get-given.ensures) (held_of d t.context.now c.args.r c.args.members.now made c.in_ok-tried.ensures.at c.requires.holds);
    }

pub returns : goal.returns
returns g c =
    let d = (domain g.I.Concrete.Has g.I.Lattice.IsBelow g.I.IntDomain.OpGives g.I.IntDomain.OpOneGives g.I.IntDomain.ToGives g.I.IntDomain.KeepGives g.I.IntDomain.members_of) in
    let i = g.met.I.IntDomain in
    let t = c.args.self.now in
    let r = c.args.r in
    let y = c.args.y.now in
    let members = c.args.members.now in
    let made = c.in_ok-tried.tried in
    let u = c.in_ok-left.left in
    let given = given_of d t.context.now t.expression.now r members made c.in_ok-tried.ensures.at c.in_ok-tried.ensures.tried in
    let hull = hull_of d t r members made u c.in_ok-tried.ensures.at (subst (λ (z : Tried g.row.I.Denot). IsHull d (StayOf d t z.register z.numbers.items) u) c.get-given.ensures c.in_ok-left.ensures) in
    record {
      trial = c.tried.ensures.trial;
      left = IfOk-weaker c.new.result _ _ (λ z e. left_some d t r y members i.members_all u z c.requires.members hull e) c.new.ensures;
      below = IfOk-weaker c.new.result _ _ (λ z e. below_some d t r y members i.members_all u z c.requires.members hull e) c.new.ensures;
      worked = IfOk-weaker c.new.result _ _ (λ z e. worked_all d t r y members i.members_all c.requires.members (worked_given d t r members made.values.items given)) c.new.ensures;
    }
