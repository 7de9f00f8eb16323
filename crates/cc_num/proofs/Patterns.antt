-- What an i128 keeps of a number modulo 2^w, for w up to 128: its bits modulo 2^w, since 2^w divides
-- 2^128. So an operator on the bits, or a product modulo 2^128, may be converted to a type of w bits.
use Rattle.std.proofs.Common.{◌≡◌, ◌≢◌, ℕ, suc, ◌*◌, ◌-◌, ◌^◌, ◌%◌, ◌<◌, ◌≤◌, ℤ, pos, negsuc, ◌+ℤ◌, ◌-ℤ◌, ◌*ℤ◌, FitsSigned, unsigned_abs, bit_and, bit_or, bit_xor, refl, sym, ap, ap₂, ◌∙◌, arith, pow_pos, pow-add, lt_of_le_of_lt, to_z, of_z, sub-add_cancel}
use Rattle.std.proofs.Math.Nat.{mod-mod}
use Rattle.std.proofs.Math.Facts.{Fits-of_z}
use Rattle.std.proofs.lemmas.Int.{ints, int_rem_euclid_is, of_z-to_z, wrapping_mul_is}
use Rattle.std.proofs.lemmas.Nat.{and_mod, or_mod, xor_mod, and_le_l, or_lt, xor_lt}
use Rattle.std.specs.Int.{int_rem_euclid, int_wrapping_mul, int_wrap, int_bit_and, int_bit_or, int_bit_xor, w128}
use Rattle.cc_num.specs.declared.int_type.IntType.{IntType}
use Rattle.cc_num.specs.declared.int_type.IntType.TheVariants as int
use Rattle.cc_num.specs.declared.target.Target.{Target}
use Rattle.cc_num.specs.Integers.{bits_of, least_of, converted}
use Rattle.cc_num.specs.Results.{bitwise_of, pattern_of}
use Rattle.cc_num.proofs.Residues.{remainder, apart, remainder_same, remainder_less}
use Rattle.cc_num.proofs.Conversions.{converted_is, few_bytes}

whole : (w : ℕ) → w ≤ 128 → 2 ^ (128 - w) * 2 ^ w ≡ 2 ^ 128
whole w h = sym (pow-add 2 (128 - w) w) ∙ ap (λ x. 2 ^ x) (sub-add_cancel h)

-- a number's remainder is that of its bits
pub remainder_of_bits : (z : ℤ) (w : ℕ) → w ≤ 128 → FitsSigned w128 z → int_rem_euclid z (pos (2 ^ w)) ≡ pos (of_z w128 z % 2 ^ w)
remainder_of_bits (pos n) w h f = refl
remainder_of_bits (negsuc n) w h f = let e = whole w h in int_rem_euclid_is (negsuc n) (pos (2 ^ w)) (2 ^ w) (2 ^ (128 - w)) (2 ^ 128 - suc n) (pow_pos w) refl (let s = f.sfits in omega (arith, ints))

-- and the remainder of the number with given bits is theirs
pub remainder_of_number : (n w : ℕ) → w ≤ 128 → n < 2 ^ 128 → int_rem_euclid (to_z w128 n) (pos (2 ^ w)) ≡ pos (n % 2 ^ w)
remainder_of_number n w h f = remainder_of_bits (to_z w128 n) w h (omega (arith, ints)) ∙ ap (λ x. pos (x % 2 ^ w)) (of_z-to_z w128 n f)

-- numbers that agree modulo 2^w are converted alike
pub converted_like : (u v : ℤ) (t : IntType) (target : Target) → t ≢ int.Bool → int_rem_euclid u (pos (2 ^ bits_of t target)) ≡ int_rem_euclid v (pos (2 ^ bits_of t target)) → converted u t target ≡ converted v t target
converted_like u v t target h e =
    let w = bits_of t target in
    let low = least_of t target in
    let same : int_rem_euclid (u -ℤ low) (pos (2 ^ w)) ≡ int_rem_euclid (v -ℤ low) (pos (2 ^ w)) =
    sym (remainder_less u low (2 ^ w) (pow_pos w)) ∙ ap (λ x. int_rem_euclid (x -ℤ low) (pos (2 ^ w))) e ∙ remainder_less v low (2 ^ w) (pow_pos w) in
    converted_is u t target h ∙ ap (λ x. low +ℤ x) same ∙ sym (converted_is v t target h)

narrow : (t : IntType) (target : Target) → bits_of t target ≤ 128
narrow t target = let h = few_bytes t target in omega arith

bits_below : (z : ℤ) → FitsSigned w128 z → of_z w128 z < 2 ^ 128
bits_below z f = (Fits-of_z f).fits

-- the remainder modulo 2^w of the one modulo 2^128
remainder_of_remainder : (z : ℤ) (r w : ℕ) → w ≤ 128 → int_rem_euclid z (pos (2 ^ 128)) ≡ pos r → int_rem_euclid z (pos (2 ^ w)) ≡ pos (r % 2 ^ w)
remainder_of_remainder z r w h e =
    let a = apart z (2 ^ 128) r (pow_pos 128) e in
    let s = a.2 in
    let j = ap (λ x. a.0 * x) (whole w h) in
    let k = ap (λ x. a.1 * x) (whole w h) in
    remainder_same z (pos r) (2 ^ w) (a.0 * 2 ^ (128 - w)) (a.1 * 2 ^ (128 - w)) (pow_pos w) (omega (arith, ints))

-- an operator on bits that goes bit by bit
bitwise_is : (f : ℕ → ℕ → ℕ) (law : (a b k : ℕ) → f a b % 2 ^ k ≡ f (a % 2 ^ k) (b % 2 ^ k)) (a b : ℤ) (t : IntType) (target : Target) → t ≢ int.Bool → FitsSigned w128 a → FitsSigned w128 b →
    f (of_z w128 a) (of_z w128 b) < 2 ^ 128 → converted (to_z w128 (f (of_z w128 a) (of_z w128 b))) t target ≡ bitwise_of f a b t target
bitwise_is f law a b t target h p q small =
    let w = bits_of t target in
    let few : w ≤ 128 = narrow t target in
    let m = of_z w128 a in
    let n = of_z w128 b in
    let left : f m n % 2 ^ w ≡ f (m % 2 ^ w) (n % 2 ^ w) = law m n w in
    let again : f (m % 2 ^ w) (n % 2 ^ w) % 2 ^ w ≡ f (m % 2 ^ w) (n % 2 ^ w) = law (m % 2 ^ w) (n % 2 ^ w) w ∙ ap₂ f (mod-mod m (2 ^ w)) (mod-mod n (2 ^ w)) in
    let patterns : f (pattern_of w a) (pattern_of w b) ≡ f (m % 2 ^ w) (n % 2 ^ w) = ap₂ f (ap unsigned_abs (remainder_of_bits a w few p)) (ap unsigned_abs (remainder_of_bits b w few q)) in
    converted_like (to_z w128 (f m n)) (pos (f (m % 2 ^ w) (n % 2 ^ w))) t target h (remainder_of_number (f m n) w few small ∙ ap pos (left ∙ sym again))
    ∙ ap (λ x. converted (pos x) t target) (sym patterns)

pub and_is : (a b : ℤ) (t : IntType) (target : Target) → t ≢ int.Bool → FitsSigned w128 a → FitsSigned w128 b → converted (int_bit_and w128 a b) t target ≡ bitwise_of bit_and a b t target
and_is a b t target h p q = bitwise_is bit_and and_mod a b t target h p q (lt_of_le_of_lt (and_le_l (of_z w128 a) (of_z w128 b)) (bits_below a p))

pub or_is : (a b : ℤ) (t : IntType) (target : Target) → t ≢ int.Bool → FitsSigned w128 a → FitsSigned w128 b → converted (int_bit_or w128 a b) t target ≡ bitwise_of bit_or a b t target
or_is a b t target h p q = bitwise_is bit_or or_mod a b t target h p q (or_lt 128 (of_z w128 a) (of_z w128 b) (bits_below a p) (bits_below b q))

pub xor_is : (a b : ℤ) (t : IntType) (target : Target) → t ≢ int.Bool → FitsSigned w128 a → FitsSigned w128 b → converted (int_bit_xor w128 a b) t target ≡ bitwise_of bit_xor a b t target
xor_is a b t target h p q = bitwise_is bit_xor xor_mod a b t target h p q (xor_lt 128 (of_z w128 a) (of_z w128 b) (bits_below a p) (bits_below b q))

-- a product modulo 2^128 is converted as the product
pub wrapped_product : (a b : ℤ) (t : IntType) (target : Target) → t ≢ int.Bool → FitsSigned w128 a → FitsSigned w128 b → converted (int_wrapping_mul w128 a b) t target ≡ converted (a *ℤ b) t target
unfolding int_wrap
wrapped_product a b t target h p q =
    let w = bits_of t target in
    let few : w ≤ 128 = narrow t target in
    let r = remainder (a *ℤ b) (2 ^ 128) (pow_pos 128) in
    let e = r.1 in
    converted_like (int_wrapping_mul w128 a b) (a *ℤ b) t target h
    (ap (λ z. int_rem_euclid z (pos (2 ^ w))) (wrapping_mul_is w128 a b p q ∙ ap (λ z. to_z w128 (unsigned_abs z)) e)
    ∙ remainder_of_number r.0 w few r.2
    ∙ sym (remainder_of_remainder (a *ℤ b) r.0 w few e))
