-- The first with which it does not pass.
use Rattle.std.proofs.Common.{◌≡◌, true, false, ⊎_elim, refl, sym, subst, arith}
use Rattle.std.specs.List.{Contains}
use Rattle.cc_rules_flows.specs.CcPlaces.laws.ListLaws.{all_taken, item_in, none_in, taken_cases}
use Rattle.cc_rules_tests.specs.Passing.{MayPassIn}
use Rattle.cc_rules_tests.specs.Tested.{test_of}
use Rattle.cc_rules_flows.specs.CcStateOperators.Domains.{domain}
use Rattle.cc_rules_tests.proofs.members.all_pass.Goals as goal

pub loop-y-init : goal.loop-y-init
loop-y-init g c = λ y k. absurd (none_in y k)

pub passes-requires : goal.passes-requires
passes-requires g c = c.requires

pub loop-y-preserved : goal.loop-y-preserved
loop-y-preserved g c = λ y k. ⊎_elim (c.loop-y.invariant y) (λ e. subst (λ z. MayPassIn (domain g.I.Concrete.Has g.I.Lattice.IsBelow g.I.IntDomain.OpGives g.I.IntDomain.OpOneGives g.I.IntDomain.ToGives g.I.IntDomain.KeepGives g.I.IntDomain.members_of) (test_of c.args.test) z) e (c.passes.ensures.0 c.if-not-passes.false))
    (taken_cases c.args.values.now c.loop-y.y-index c.y-item.result y c.loop-y-test.true c.y-item.is k)

pub returns-then-not-passes : goal.returns-then-not-passes
returns-then-not-passes g c = (
  (λ h. let e : false ≡ true = h in absurd (cc)),
  (λ h. let e : c.passes.result ≡ true = c.passes.ensures.1 (h c.y-item.result (item_in c.args.values.now c.loop-y.y-index c.y-item.result c.loop-y-test.true c.y-item.is)) in absurd (cc)),
)

pub returns : goal.returns
returns g c = ((λ h y k. c.loop-y.invariant y (subst (λ xs. Contains xs y) (sym (all_taken c.args.values.now c.loop-y.y-index (omega (arith, c.loop-y-test.false)))) k)), (λ h. refl))
