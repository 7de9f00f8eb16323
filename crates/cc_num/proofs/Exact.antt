-- A value of any type of C lies from -2^63 to 2^64 - 1, so that sums, differences, signed products
-- and quotients of such values are exact in the 128 bits of an i128.
use Rattle.std.proofs.Common.{◌≡◌, ℕ, zero, suc, ◌-◌, ◌^◌, ◌<◌, ◌≤◌, Bool, true, false, ℤ, pos, negsuc, neg_ℤ, ◌+ℤ◌, ◌-ℤ◌, ◌*ℤ◌, ◌≤ℤ◌, ◌<ℤ◌, FitsSigned, unsigned_abs, int_div, int_rem, lit<, div-le_self, refl, ap, ◌∙◌, arith, pow_mono, to_z, of_z, to_z-of_z}
use Rattle.std.proofs.lemmas.Int.{ints, fits_signed_mul, fits_signed_from_abs, quot_is, rem_is}
use Rattle.std.specs.Int.{w128}
use Rattle.cc_num.specs.declared.int_type.IntType.{IntType}
use Rattle.cc_num.specs.declared.int_type.IntType.TheVariants as int
use Rattle.cc_num.specs.declared.target.Target.{Target}
use Rattle.cc_num.specs.Integers.{bits_of, is_signed, least_of_bits, most_of_bits, IsValueOf}
use Rattle.cc_num.proofs.Conversions.{few_bytes}

-- a value of some integer type
pub record IsNarrow (a : ℤ) : Type 0 where
  pub low : neg_ℤ (pos (2 ^ 63)) ≤ℤ a
  pub high : a <ℤ pos (2 ^ 64)

bits_low : (s : Bool) (w : ℕ) → w ≤ 64 → neg_ℤ (pos (2 ^ 63)) ≤ℤ least_of_bits s w
bits_low true w h = let few : w - 1 ≤ 63 = omega arith in let p = pow_mono few in omega (arith, ints)
bits_low false w h = omega (arith, ints)

bits_high : (s : Bool) (w : ℕ) → w ≤ 64 → most_of_bits s w <ℤ pos (2 ^ 64)
bits_high true w h = let few : w - 1 ≤ 64 = omega arith in let p = pow_mono few in omega (arith, ints)
bits_high false w h = let p = pow_mono h in omega (arith, ints)

pub value_narrow : (t : IntType) (target : Target) (a : ℤ) → IsValueOf t target a → IsNarrow a
value_narrow int.Bool target a h = let low = h.least in let high = h.most in record { low = omega (arith, ints); high = omega (arith, ints) }
value_narrow t target a h =
    let few = few_bytes t target in
    let low = h.least in
    let high = h.most in
    let l = bits_low (is_signed t target) (bits_of t target) (omega arith) in
    let m = bits_high (is_signed t target) (bits_of t target) (omega arith) in
    record { low = omega (arith, ints); high = omega (arith, ints) }

pub narrow_fits : (a : ℤ) → IsNarrow a → FitsSigned w128 a
narrow_fits a h = let low = h.low in let high = h.high in omega (arith, ints)

pub sum_exact : (a b : ℤ) → IsNarrow a → IsNarrow b → to_z w128 (of_z w128 (to_z w128 (of_z w128 a) +ℤ to_z w128 (of_z w128 b))) ≡ a +ℤ b
sum_exact a b p q = let p1 = p.low in let p2 = p.high in let q1 = q.low in let q2 = q.high in omega (arith, ints)

pub difference_exact : (a b : ℤ) → IsNarrow a → IsNarrow b → to_z w128 (of_z w128 (to_z w128 (of_z w128 a) -ℤ to_z w128 (of_z w128 b))) ≡ a -ℤ b
difference_exact a b p q = let p1 = p.low in let p2 = p.high in let q1 = q.low in let q2 = q.high in omega (arith, ints)

pub complement_exact : (a : ℤ) → IsNarrow a → to_z w128 (of_z w128 (to_z w128 (of_z w128 (pos 0 -ℤ to_z w128 (of_z w128 a))) -ℤ pos 1)) ≡ neg_ℤ a -ℤ pos 1
complement_exact a p = let p1 = p.low in let p2 = p.high in omega (arith, ints)

-- a signed value and one of 64 bits have a product
signed_bits : (w : ℕ) (a : ℤ) → w ≤ 64 → least_of_bits true w ≤ℤ a → a ≤ℤ most_of_bits true w → unsigned_abs a ≤ 2 ^ 63
signed_bits w a h low high = let few : w - 1 ≤ 63 = omega arith in let p = pow_mono few in omega (arith, ints)

signed_by : (s : Bool) (w : ℕ) (a : ℤ) → s ≡ true → w ≤ 64 → least_of_bits s w ≤ℤ a → a ≤ℤ most_of_bits s w → unsigned_abs a ≤ 2 ^ 63
signed_by true w a s h low high = signed_bits w a h low high
signed_by false w a s h low high = cc

pub signed_small : (t : IntType) (target : Target) (a : ℤ) → is_signed t target ≡ true → IsValueOf t target a → unsigned_abs a ≤ 2 ^ 63
signed_small int.Bool target a s h = cc
signed_small t target a s h = let few = few_bytes t target in signed_by (is_signed t target) (bits_of t target) a s (omega arith) h.least h.most

pub product_fits : (a b : ℤ) → unsigned_abs a ≤ 2 ^ 63 → unsigned_abs b < 2 ^ 64 → FitsSigned w128 (a *ℤ b)
product_fits a b p q = fits_signed_mul w128 a b (2 ^ 63) (2 ^ 64 - 1) p (omega arith) (lit< tt)

-- a quotient is no greater than what is divided
abs_neg : (n : ℕ) → unsigned_abs (neg_ℤ (pos n)) ≡ n
abs_neg zero = refl
abs_neg (suc n) = refl

pub quotient_small : (a b : ℤ) → unsigned_abs (int_div a b) ≤ unsigned_abs a
quotient_small (pos a) (pos b) = div-le_self a b
quotient_small (pos a) (negsuc b) = rw abs_neg (div-le_self a (suc b))
quotient_small (negsuc a) (pos b) = rw abs_neg (div-le_self (suc a) b)
quotient_small (negsuc a) (negsuc b) = div-le_self (suc a) (suc b)

pub quotient_fits : (a b : ℤ) → IsNarrow a → FitsSigned w128 (int_div a b)
quotient_fits a b p = let p1 = p.low in let p2 = p.high in let s = quotient_small a b in fits_signed_from_abs w128 (int_div a b) (omega (arith, ints))

pub product_exact : (a b : ℤ) → FitsSigned w128 a → FitsSigned w128 b → FitsSigned w128 (a *ℤ b) → to_z w128 (of_z w128 (to_z w128 (of_z w128 a) *ℤ to_z w128 (of_z w128 b))) ≡ a *ℤ b
product_exact a b p q r = ap (λ x. to_z w128 (of_z w128 (x *ℤ to_z w128 (of_z w128 b)))) (to_z-of_z p) ∙ ap (λ x. to_z w128 (of_z w128 (a *ℤ x))) (to_z-of_z q) ∙ to_z-of_z r

pub quotient_exact : (a b : ℤ) → IsNarrow a → IsNarrow b → to_z w128 (of_z w128 (int_div (to_z w128 (of_z w128 a)) (to_z w128 (of_z w128 b)))) ≡ int_div a b
quotient_exact a b p q = quot_is w128 a b (narrow_fits a p) (narrow_fits b q) (quotient_fits a b p)

pub remainder_exact : (a b : ℤ) → IsNarrow a → IsNarrow b → to_z w128 (of_z w128 (int_rem (to_z w128 (of_z w128 a)) (to_z w128 (of_z w128 b)))) ≡ int_rem a b
remainder_exact a b p q = rem_is w128 a b (narrow_fits a p) (narrow_fits b q)
