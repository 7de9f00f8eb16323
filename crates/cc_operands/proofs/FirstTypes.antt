-- The first type that has a value, as far as a loop over the types has come.
use Rattle.std.proofs.Common.{◌≡◌, ◌<◌, ◌≤◌, ◌+◌, ℕ, suc, pos, Bool, true, false, List, [], ◌∷◌, length, get_or, drop, ap, sym, ◌∙◌, refl, add-one}
use Rattle.std.specs.Prelude.{if◌then◌else◌}
use Rattle.std.proofs.Math.Seq.{drop-cons}
use Rattle.std.proofs.lemmas.List.{drop_all}
use Rattle.cc_program.specs.CcNum.declared.int_type.IntType.{IntType}
use Rattle.cc_program.specs.CcNum.declared.int_type.IntType.TheVariants as int
use Rattle.cc_program.specs.CcNum.declared.target.Target.{Target}
use Rattle.cc_program.specs.CcNum.Integers.{is_value_of}
use Rattle.cc_operands.specs.Operands.{first_with}

taken : (b : Bool) (t u : IntType) → b ≡ true → (if b then t else u) ≡ t
taken true t u h = refl
taken false t u h = cc

passed : (b : Bool) (t u : IntType) → b ≡ false → (if b then t else u) ≡ u
passed false t u h = refl
passed true t u h = cc

module _ (target : Target) (n : ℕ) (types : List IntType) where
  opens : (i : ℕ) (t : IntType) → i < length types →
      first_with target n (drop i types) ≡ (if is_value_of (get_or types i t) target (pos n) then get_or types i t else first_with target n (drop (suc i) types))
  opens i t h = ap (first_with target n) (drop-cons types i t h)

  has : (i : ℕ) (t : IntType) (b : Bool) → t ≡ get_or types i t → is_value_of t target (pos n) ≡ b → is_value_of (get_or types i t) target (pos n) ≡ b
  has i t b e k = ap (λ u. is_value_of u target (pos n)) (sym e) ∙ k

  pub first_found : (i : ℕ) (t : IntType) → first_with target n (drop i types) ≡ first_with target n types → i < length types → t ≡ get_or types i t →
      is_value_of t target (pos n) ≡ true → t ≡ first_with target n types
  first_found i t h below e k =
      e ∙ sym (taken (is_value_of (get_or types i t) target (pos n)) (get_or types i t) (first_with target n (drop (suc i) types)) (has i t true e k)) ∙ sym (opens i t below) ∙ h

  pub first_missed : (i : ℕ) (t : IntType) → first_with target n (drop i types) ≡ first_with target n types → i < length types → t ≡ get_or types i t →
      is_value_of t target (pos n) ≡ false → first_with target n (drop (i + 1) types) ≡ first_with target n types
  first_missed i t h below e k =
      ap (λ j. first_with target n (drop j types)) (add-one i)
      ∙ sym (passed (is_value_of (get_or types i t) target (pos n)) (get_or types i t) (first_with target n (drop (suc i) types)) (has i t false e k)) ∙ sym (opens i t below) ∙ h

  pub first_none : (i : ℕ) → first_with target n (drop i types) ≡ first_with target n types → length types ≤ i → int.ULongLong ≡ first_with target n types
  first_none i h past = sym (ap (first_with target n) (drop_all i types past)) ∙ h

pub ruleset of_first = (first_found, first_missed, first_none)
