-- Barred where no value passes, else as the test leaves the sets.
use Rattle.std.proofs.Common.{refl, sym, subst}
use Rattle.std.proofs.lemmas.Result.{IfOk-weaker}
use Rattle.cc_rules_choices.proofs.Told.{barred, barred_worked, taken, taken_worked}
use Rattle.cc_rules_tests.specs.Tested.{test_of}
use Rattle.cc_rules_flows.specs.CcStateOperators.Domains.{domain}
use Rattle.cc_rules_flows.proofs.CcStateValues.Same.{order_of}
use Rattle.cc_rules_flows.specs.CcStateValues.Contexts.{IsValIn}
use Rattle.cc_rules_choices.proofs.sides.side.Goals as goal

pub passes-requires : goal.passes-requires
passes-requires g c = c.requires.labels

pub returns-then-not-passes : goal.returns-then-not-passes
returns-then-not-passes g c =
    let d = (domain g.I.Concrete.Has g.I.Lattice.IsBelow g.I.IntDomain.OpGives g.I.IntDomain.OpOneGives g.I.IntDomain.ToGives g.I.IntDomain.KeepGives g.I.IntDomain.members_of) in
    let value = subst (λ y. IsValIn d c.args.here.now.context c.args.e.now y) (sym c.whole.ensures) c.requires.trial.whole in
    record {
      trial = c.requires.trial;
      told = barred d c.args.here.now c.args.e.now c.requires.here c.whole.result.now value (test_of c.args.test) c.passes.result c.passes.ensures c.if-not-passes.true;
      like = tt;
      worked = barred_worked d c.args.here.now c.args.e.now c.requires.here c.whole.result.now value (test_of c.args.test) c.passes.result c.passes.ensures c.if-not-passes.true;
    }

pub refined-told-requires : goal.refined-told-requires
refined-told-requires g c = record {
  here = c.requires.here;
  may = c.requires.may;
  tested = record { sized = c.requires.here.sized; known = c.requires.here.known; pure = c.requires.may.pure; labels = c.requires.labels };
  context = refl;
  trial = c.requires.trial;
}

pub returns : goal.returns
returns g c =
    let l = g.met.I.Lattice in
    let i = g.met.I.IntDomain in
    let d = (domain g.I.Concrete.Has g.I.Lattice.IsBelow g.I.IntDomain.OpGives g.I.IntDomain.OpOneGives g.I.IntDomain.ToGives g.I.IntDomain.KeepGives g.I.IntDomain.members_of) in
    let o = order_of d g.I.Lattice.AreAlike i.all_alike l.below_itself l.below_both_ways i.op_grows i.op_one_grows i.to_grows i.members_below in
    let value = subst (λ y. IsValIn d c.args.here.now.context c.args.e.now y) (sym c.whole.ensures) c.requires.trial.whole in
    record {
      trial = c.refined-told.ensures.trial;
      told = IfOk-weaker c.refined-told.result _ _ (λ fact h. taken d c.args.here.now c.args.e.now c.requires.here c.whole.result.now value (test_of c.args.test) o c.passes.result c.passes.ensures c.if-not-passes.false fact h) c.refined-told.ensures.refined;
      like = c.refined-told.ensures.like;
      worked = IfOk-weaker c.refined-told.result _ _ (λ fact h. taken_worked d c.args.here.now c.args.e.now c.requires.here c.whole.result.now value (test_of c.args.test) h) c.refined-told.ensures.members;
    }
