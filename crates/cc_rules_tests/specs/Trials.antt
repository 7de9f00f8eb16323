-- What has been worked of an expression: at the sets of the registers, and with one of them at each of some numbers.
use Rattle.std.specs.Prelude.{◌≡◌, ℕ, ℤ, All, List, Some}
use Rattle.std.specs.List.{AllZip}
use Rattle.cc_rules_flows.specs.CcPlaces.declared.abs.Abs.{Abs}
use Rattle.cc_rules_flows.specs.CcPlaces.declared.abs.Abs.TheVariants as abs
use Rattle.cc_program.specs.declared.expr.Expr.{Expr}
use Rattle.cc_rules_tests.specs.Tested.{IsChangedOf, IsValWith}
use Rattle.cc_rules_tests.specs.declared.tried.Tried.{Tried}
use Rattle.cc_rules_tests.specs.declared.trial.Trial.{Trial}
use Rattle.cc_rules_flows.specs.CcStateOperators.Domains.{Domain, IsHull}
use Rattle.cc_rules_flows.specs.CcStateValues.declared.context.Context.{Context}
use Rattle.cc_rules_flows.specs.CcStateValues.Contexts.{IsValIn}

-- of this register, at these numbers
pub record IsTriedAt {I : Type 0} (r : ℕ) (ns : List ℤ) (t : Tried I) : Type 0 where
  pub register : t.register ≡ r
  pub numbers : t.numbers.items ≡ ns

module _ {I : Type 0} (d : Domain I) where
  -- there is a set of the one number
  abbrev pub HasOne : ℤ → Type 0
  HasOne m = (one : I) × IsHull d (λ n. n ≡ m) one

  -- a set is that of some numbers
  abbrev pub IsExplicitSet : Abs I → List ℤ → Type 0
  IsExplicitSet y members = (x : I) × (y ≡ abs.Ints x) × (d.members x ≡ Some members)

module _ {I : Type 0} (d : Domain I) (c : Context I) (e : Expr) where
  -- what the expression gives with a register at a number
  abbrev pub IsGivenAt : ℕ → ℤ → Abs I → Type 0
  IsGivenAt r m y = (one : I) × IsHull d (λ n. n ≡ m) one × IsValWith d c r one e y

  abbrev pub AreGivenAt : ℕ → List ℤ → List (Abs I) → Type 0
  AreGivenAt r numbers values = AllZip (IsGivenAt r) numbers values

  abbrev pub IsTried : Tried I → Type 0
  IsTried t = AreGivenAt t.register t.numbers.items t.values.items

  pub record IsTrialOf (t : Trial I) : Type 0 where
    pub changed : IsChangedOf c t.changed
    pub whole : IsValIn d c e t.whole
    pub tried : All IsTried t.tried.items
