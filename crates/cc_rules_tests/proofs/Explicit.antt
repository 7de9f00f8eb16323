-- What is left of an explicit set.
use Rattle.std.proofs.Common.{◌≡◌, ◌↔◌, ℕ, ℤ, List, Some, sym, subst, ◌∙◌}
use Rattle.std.specs.List.{Contains}
use Rattle.std.specs.Option.{IfSome}
use Rattle.cc_rules_flows.specs.CcPlaces.Abstract.{IsBelowAbs}
use Rattle.cc_rules_flows.specs.CcPlaces.declared.abs.Abs.{Abs}
use Rattle.cc_rules_flows.specs.CcPlaces.declared.abs.Abs.TheVariants as abs
use Rattle.cc_program.specs.declared.expr.Expr.{Expr}
use Rattle.cc_rules_flows.specs.Tests.{OfMembers}
use Rattle.cc_rules_tests.specs.Tested.{IsExplicitIn, IsLeftIn, IsWorkedAt, MayHoldEach, StaysIn}
use Rattle.cc_rules_tests.specs.Trials.{AreGivenAt, IsExplicitSet, IsGivenAt, IsTried, IsTriedAt}
use Rattle.cc_rules_tests.specs.declared.tested.Tested.{Tested}
use Rattle.cc_rules_tests.specs.declared.tried.Tried.{Tried}
use Rattle.cc_rules_tests.proofs.Registers.{below_ints, explicit_member, stays_below}
use Rattle.cc_rules_tests.proofs.Staying.{StayOf, worked_on}
use Rattle.cc_rules_tests.proofs.Zips.{zip_in}
use Rattle.cc_rules_flows.specs.CcStateOperators.Domains.{Domain, IsHull}
use Rattle.cc_rules_flows.specs.CcStateValues.declared.context.Context.{Context}

-- what was tried for a register at some numbers
pub given_of : {I : Type 0} (d : Domain I) (c : Context I) (e : Expr) (r : ℕ) (numbers : List ℤ) (t : Tried I) → IsTriedAt r numbers t → IsTried d c e t → AreGivenAt d c e r numbers t.values.items
given_of d c e r numbers t at h = subst (λ q. AreGivenAt d c e q numbers t.values.items) at.register (subst (λ ns. AreGivenAt d c e t.register ns t.values.items) at.numbers h)

pub held_of : {I : Type 0} (d : Domain I) (c : Context I) (r : ℕ) (numbers : List ℤ) (t : Tried I) → IsTriedAt r numbers t → MayHoldEach d c r numbers → MayHoldEach d c t.register t.numbers.items
held_of d c r numbers t at h = subst (λ q. MayHoldEach d c q t.numbers.items) (sym at.register) (subst (λ ns. MayHoldEach d c r ns) (sym at.numbers) h)

pub hull_of : {I : Type 0} (d : Domain I) (tested : Tested I) (r : ℕ) (numbers : List ℤ) (t : Tried I) (u : I) → IsTriedAt r numbers t → IsHull d (StayOf d tested t.register t.numbers.items) u → IsHull d (StayOf d tested r numbers) u
hull_of d tested r numbers t u at h = subst (λ q. IsHull d (StayOf d tested q numbers) u) at.register (subst (λ ns. IsHull d (StayOf d tested t.register ns) u) at.numbers h)

module _ {I : Type 0} (d : Domain I) (t : Tested I) (r : ℕ) (y : Abs I) (members : List ℤ) (laws : (x : I) → IfSome (d.members x) (λ vs. (v : ℤ) → Contains vs v ↔ d.has x v)) where
  all_of : (x : I) → d.members x ≡ Some members → (v : ℤ) → Contains members v ↔ d.has x v
  all_of x some = subst (λ o. IfSome o (λ vs. (v : ℤ) → Contains vs v ↔ d.has x v)) some (laws x)

  pub left_some : (u : I) (z : Abs I) → IsExplicitSet d y members → IsHull d (StayOf d t r members) u → z ≡ abs.Ints u → IsLeftIn d t r y z
  left_some u z (x, is, some) hull e = OfMembers x u members is some hull e

  pub below_some : (u : I) (z : Abs I) → IsExplicitSet d y members → IsHull d (StayOf d t r members) u → z ≡ abs.Ints u → IsBelowAbs d.below z y
  below_some u z (x, is, some) hull e = subst (λ v. IsBelowAbs d.below v y) (sym e) (below_ints d t r y x u is (stays_below d t r x u members (all_of x some) hull))

  -- a set of which all members stay
  pub left_all : (z : Abs I) → ((x u : I) → ((v : ℤ) → d.has x v → d.has u v) → d.below x u) → IsExplicitSet d y members → ((m : ℤ) → Contains members m → StaysIn d t r m) → z ≡ y → IsLeftIn d t r y z
  left_all z least (x, is, some) each e =
      let all = all_of x some in
      OfMembers x x members is some (record { has_all = λ n k. (all n).0 k.0; least = λ u h. least x u (λ v k. h v ((all v).1 k, each v ((all v).1 k))) }) (e ∙ is)

  pub worked_all : IsExplicitSet d y members → ((m : ℤ) → Contains members m → IsWorkedAt d t r m) → (m : ℤ) → IsExplicitIn d t.context.now y m → IsWorkedAt d t r m
  worked_all (x, is, some) each m k = each m (explicit_member d t.context.now r x members m some (subst (λ v. IsExplicitIn d t.context.now v m) is k))

module _ {I : Type 0} (d : Domain I) (t : Tested I) (r : ℕ) (numbers : List ℤ) (values : List (Abs I)) where
  pub worked_given : AreGivenAt d t.context.now t.expression.now r numbers values → (m : ℤ) → Contains numbers m → IsWorkedAt d t r m
  worked_given h m k = let w = zip_in (IsGivenAt d t.context.now t.expression.now r) numbers values m h k in worked_on d t r m w.0 w.2
