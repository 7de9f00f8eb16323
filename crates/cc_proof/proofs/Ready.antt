-- What is asked of a program, for its own rules.
use Rattle.std.proofs.Common.{arith, ◌≡◌, ◌<◌, ◌≤◌, ◌^◌, ℕ, length, Some, slice_get, sym, subst}
use Rattle.std.proofs.lemmas.Option.{get_or_from_slice_get, slice_get_within}
use Rattle.cc_rules_grow.specs.CcFlow.Points.{count_of}
use Rattle.cc_program.specs.declared.func.Func.{Func}
use Rattle.cc_program.specs.declared.program.Program.{Program}
use Rattle.cc_rules_made.specs.declared.rules.Rules.{Rules}
use Rattle.cc_rules_made.specs.Rules.{AreOf}
use Rattle.cc_rules_grow.specs.CcState.Covered.{IsInLimits}
use Rattle.cc_rules_grow.specs.CcState.Shape.{HaveShape}
use Rattle.cc_rules_grow.specs.CcStateFacts.declared.facts.Facts.{Facts}
use Rattle.cc_rules_grow.proofs.CcStateKeys.Typed.{few-locals}
use Rattle.cc_rules_grow.specs.CcStateKeys.Keys.{keys_of}
use Rattle.cc_rules_grow.specs.CcStateOperators.Domains.{Domain}
use Rattle.cc_rules_grow.proofs.CcSyntax.NameRules.{sound-typed}
use Rattle.cc_rules_grow.specs.CcSyntax.Normal.{IsNormal}

pub few_keys : {I : Type 0} (d : Domain I) (p : Program) (facts : Facts I) → IsInLimits d p facts → length (keys_of p) < 2 ^ 32
few_keys d p facts limits = let few = limits.few_facts in omega (arith, few)

pub few_locals : (p : Program) → IsNormal p → (id : ℕ) (f : Func) → slice_get p.funcs id ≡ Some f → length f.locals < 2 ^ 32
few_locals p normal id f at =
    subst (λ (g : Func). length g.locals < 2 ^ 32) (get_or_from_slice_get p.funcs id f f at) (few-locals p (sound-typed p normal.sound) id f (slice_get_within p.funcs id f at))

pub record AreReady {I : Type 0} (d : Domain I) (rules : Rules) (facts : Facts I) (q : Program) : Type 0 where
  pub normal : IsNormal q
  pub own : AreOf q rules
  pub shape : HaveShape d q facts
  pub few : count_of q ≤ 65536
  pub few_keys : length (keys_of q) < 2 ^ 32

pub ready : {I : Type 0} (d : Domain I) (p : Program) (rules : Rules) (facts : Facts I) → IsInLimits d p facts → HaveShape d p facts → AreOf p rules → AreReady d rules facts rules.program.now
ready d p rules facts limits shape of =
    subst (AreReady d rules facts) (sym of.program) (record { normal = limits.normal; own = of; shape = shape; few = limits.few_points; few_keys = few_keys d p facts limits })
