-- A conversion lands in the type, and leaves a value of the type as it is. Each type but _Bool has
-- the numbers of its w bits, so both are facts of residues.
use Rattle.std.proofs.Common.{◌^◌, ◌≡◌, ℕ, zero, suc, ◌<◌, ◌≤◌, ◌≢◌, Bool, true, false, ℤ, pos, negsuc, refl, sym, ap, arith, inl, inr, ⊎_elim, ◌∙◌, eqb-true, nat_eq, ◌⊎◌, ◌||◌, IsTrue}
use Rattle.std.proofs.lemmas.Int.{ints}
use Rattle.std.specs.Int.{int_rem_euclid}
use Rattle.cc_num.specs.declared.int_type.IntType.{IntType}
use Rattle.cc_num.specs.declared.int_type.IntType.TheVariants as int
use Rattle.cc_num.specs.declared.target.Target.{Target}
use Rattle.cc_num.specs.Integers.{bytes_of, bits_of, is_signed, least_of, most_of, least_of_bits, most_of_bits, IsValueOf, residue_from, truth_of, converted}
use Rattle.cc_num.proofs.Residues.{residue_alike, residue_least, residue_most, residue_same}

-- `converted` by its two rules
pub converted-Bool : (v : ℤ) (target : Target) → converted v int.Bool target ≡ truth_of v
unfolding converted
converted-Bool v target = refl

pub converted_is : (v : ℤ) (t : IntType) (target : Target) → t ≢ int.Bool → converted v t target ≡ residue_from (least_of t target) (bits_of t target) v
unfolding converted
converted_is v int.Bool target h = absurd (h refl)
converted_is v t target h = refl

-- the ends of a type that is not _Bool are those of its bits
pub least_is : (t : IntType) (target : Target) → least_of t target ≡ least_of_bits (is_signed t target) (bits_of t target)
least_is int.Bool target = refl
least_is t target = refl

pub most_is : (t : IntType) (target : Target) → t ≢ int.Bool → most_of t target ≡ most_of_bits (is_signed t target) (bits_of t target)
most_is int.Bool target h = absurd (h refl)
most_is t target h = refl

-- a type has from one byte to eight
or_true : (x y : Bool) → IsTrue (x || y) → (x ≡ true) ⊎ (y ≡ true)
or_true true y h = inl refl
or_true false true h = inr refl
or_true false false h = cc

pub int_bytes_is : (target : Target) → (target.int_bytes ≡ 2) ⊎ (target.int_bytes ≡ 4)
int_bytes_is target = ⊎_elim (λ e. inl (eqb-true _ _ e)) (λ e. inr (eqb-true _ _ e)) (or_true (nat_eq target.int_bytes 2) (nat_eq target.int_bytes 4) target.int)

pub some_bytes : (t : IntType) (target : Target) → 1 ≤ bytes_of t target
some_bytes int.Int target = ⊎_elim (λ e. omega arith) (λ e. omega arith) (int_bytes_is target)
some_bytes int.UInt target = ⊎_elim (λ e. omega arith) (λ e. omega arith) (int_bytes_is target)
some_bytes t target = omega arith

pub few_bytes : (t : IntType) (target : Target) → bytes_of t target ≤ 8
few_bytes int.Int target = ⊎_elim (λ e. omega arith) (λ e. omega arith) (int_bytes_is target)
few_bytes int.UInt target = ⊎_elim (λ e. omega arith) (λ e. omega arith) (int_bytes_is target)
few_bytes t target = omega arith

pub some_bits : (t : IntType) (target : Target) → 0 < bits_of t target
some_bits t target = let h = some_bytes t target in omega arith

-- what a conversion gives is a value of the type
pub converted-IsValueOf : (v : ℤ) (t : IntType) (target : Target) → IsValueOf t target (converted v t target)
unfolding converted
converted-IsValueOf (pos zero) int.Bool target = record { least = omega (arith, ints); most = omega (arith, ints) }
converted-IsValueOf (pos (suc n)) int.Bool target = record { least = omega (arith, ints); most = omega (arith, ints) }
converted-IsValueOf (negsuc n) int.Bool target = record { least = omega (arith, ints); most = omega (arith, ints) }
converted-IsValueOf v t target = record {
  least = residue_least (is_signed t target) (bits_of t target) v;
  most = residue_most (is_signed t target) (bits_of t target) v (some_bits t target);
}

-- a value of the type is converted to itself
pub converted-same : (t : IntType) (target : Target) (v : ℤ) → IsValueOf t target v → converted v t target ≡ v
unfolding converted
converted-same int.Bool target (pos zero) h = refl
converted-same int.Bool target (pos (suc n)) h = let most = h.most in omega (arith, ints)
converted-same int.Bool target (negsuc n) h = let least = h.least in absurd (omega (arith, ints))
converted-same t target v h = residue_same (is_signed t target) (bits_of t target) v (some_bits t target) h.least h.most

-- a conversion as it is computed
pub converted_by_residue : (v low r : ℤ) (w : ℕ) (t : IntType) (target : Target) → t ≢ int.Bool → low ≡ least_of t target → w ≡ bits_of t target → r ≡ residue_from low w v → r ≡ converted v t target
converted_by_residue v low r w t target h e f g = g ∙ ap (λ x. residue_from x w v) e ∙ ap (λ x. residue_from (least_of t target) x v) f ∙ sym (converted_is v t target h)

-- a conversion changes a value by a multiple of 2^w
pub converted-modulo : (v : ℤ) (t : IntType) (target : Target) → t ≢ int.Bool → int_rem_euclid (converted v t target) (pos (2 ^ bits_of t target)) ≡ int_rem_euclid v (pos (2 ^ bits_of t target))
converted-modulo v t target h = ap (λ x. int_rem_euclid x (pos (2 ^ bits_of t target))) (converted_is v t target h) ∙ residue_alike (least_of t target) (bits_of t target) v
