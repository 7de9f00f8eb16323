-- Each rule has every result that does not trap.
use Rattle.std.proofs.Common.{◌≡◌, ◌≢◌, ◌⊎◌, ℕ, zero, suc, ◌-◌, ◌*◌, ◌/◌, ◌^◌, ◌≤◌, ◌<◌, min, Bool, true, false, ◌&&◌, ◌||◌, not, ℤ, pos, negsuc, neg_ℤ, ◌+ℤ◌, ◌-ℤ◌, ◌*ℤ◌, ◌≤ℤ◌, ◌<ℤ◌, nat_lt, int_le, int_lt, int_div, int_rem, unsigned_abs, Option, Some, None, option_map, option_and_then, if◌then◌else◌, bit_and, bit_or, bit_xor, refl, sym, ap, subst, ◌∙◌, inl, inr, ⊎_elim, arith, pow_pos, pow_mono, div-le_self}
use Rattle.std.specs.Int.{int_max, int_min}
use Rattle.std.specs.Ordering.{int_eq}
use Rattle.std.proofs.lemmas.Int.{ints, clamps, rem_below}
use Rattle.std.proofs.lemmas.Nat.{and_le_l, and_le_r, or_lt, xor_lt, leading_length, le-div}
use Rattle.std.proofs.Math.Nat.{mod-eq_of_lt, mod-le, mul-le-mul_left, mul-le-mul_right, div-mul-le_self}
use Rattle.std.proofs.lemmas.Bool.Decides.{Decides-int_eq, nat_tests}
use lib.Count.{count_leading_zeros}
use Rattle.cc_num.specs.declared.int_type.IntType.{IntType}
use Rattle.cc_num.specs.declared.int_type.IntType.TheVariants as int
use Rattle.cc_num.specs.declared.target.Target.{Target}
use Rattle.cc_num.specs.declared.op.BinOp.{BinOp}
use Rattle.cc_num.specs.declared.op.BinOp.TheVariants as op
use Rattle.cc_num.specs.Integers.{bits_of, is_signed, most_of, most_of_bits, IsValueOf, converted}
use Rattle.cc_num.specs.Results.{represented, quotient_of, remainder_of, left_of, shl_of, floor_of, shr_of, pattern_of, bitwise_of, one_if, result_of, is_shift}
use Rattle.cc_num.proofs.Conversions.{converted-same, converted-IsValueOf}
use Rattle.cc_num.proofs.ResultLaws.{represented_same, remainder_none, remainder_some, least_low, most_high}
use Rattle.cc_num.proofs.Exact.{quotient_small}
use Rattle.cc_ranges.specs.Ends.{Ends, EndsHave, fitted, whole_ends}
use Rattle.cc_ranges.specs.Rules.{magnitude, mul_rule, only_zero, div_rule, rem_rule, and_rule, width_of, or_rule, counts_of, shl_by, shl_rule, shr_by, shr_rule, verdict, lt_rule, le_rule, are_one, are_apart, eq_rule, ne_rule, rule_of}
use Rattle.cc_ranges.specs.laws.Fits.{between_some, fitted_has}
use Rattle.cc_ranges.specs.laws.Products.{IsBetween, product_between}

-- a quotient of numbers that are not negative is none
quotient_up : (p q : ℤ) → pos 0 ≤ℤ p → pos 0 ≤ℤ q → pos 0 ≤ℤ int_div p q
quotient_up (pos p) (pos q) h k = omega (arith, ints)
quotient_up (pos p) (negsuc q) h k = absurd (omega (arith, ints))
quotient_up (negsuc p) q h k = absurd (omega (arith, ints))

-- a remainder has the sign of what is divided
remainder_up : (p q : ℤ) → pos 0 ≤ℤ p → pos 0 ≤ℤ int_rem p q
remainder_up (pos p) q h = omega (arith, ints)
remainder_up (negsuc p) q h = absurd (omega (arith, ints))

-- the bits of a value that is not negative are its own, and so are those that `&` leaves of it
bitwise_value : (f : ℕ → ℕ → ℕ) (v w : ℤ) (t : IntType) (target : Target) → IsValueOf t target (bitwise_of f v w t target)
bitwise_value f v w t target = converted-IsValueOf (pos (f (pattern_of (bits_of t target) v) (pattern_of (bits_of t target) w))) t target

most_bits : (s : Bool) (w : ℕ) → most_of_bits s w <ℤ pos (2 ^ w)
most_bits true w = let few : w - 1 ≤ w = omega arith in let p = pow_mono few in let q = pow_pos (w - 1) in omega (arith, ints)
most_bits false w = let q = pow_pos w in omega (arith, ints)

below_bits : (n : ℕ) (t : IntType) (target : Target) → IsValueOf t target (pos n) → n < 2 ^ bits_of t target
below_bits n int.Bool target h = let m = h.most in omega (arith, ints)
below_bits n t target h = let m = h.most in let b = most_bits (is_signed t target) (bits_of t target) in omega (arith, ints)

own_pattern : (n : ℕ) (t : IntType) (target : Target) → IsValueOf t target (pos n) → pattern_of (bits_of t target) (pos n) ≡ n
own_pattern n t target h = mod-eq_of_lt (below_bits n t target h)

small_value : (m n : ℕ) (t : IntType) (target : Target) → m ≤ n → IsValueOf t target (pos n) → IsValueOf t target (pos m)
small_value m n t target l h = let low = least_low t target in let most = h.most in record { least = omega (arith, ints); most = omega (arith, ints) }

and_first : (v w : ℤ) (t : IntType) (target : Target) → pos 0 ≤ℤ v → IsValueOf t target v → IsBetween (pos 0) v (bitwise_of bit_and v w t target)
and_first (negsuc v) w t target up h = absurd (omega (arith, ints))
and_first (pos v) w t target up h =
    let x = pattern_of (bits_of t target) w in
    let small : bit_and (pattern_of (bits_of t target) (pos v)) x ≤ v = let p = own_pattern v t target h in let l = and_le_l (pattern_of (bits_of t target) (pos v)) x in omega (arith, p, l) in
    let same = converted-same t target (pos (bit_and (pattern_of (bits_of t target) (pos v)) x)) (small_value _ v t target small h) in
    subst (λ (y : ℤ). IsBetween (pos 0) (pos v) y) (sym same) (record { low_end = omega (arith, ints); high_end = omega (arith, ints) })

and_second : (v w : ℤ) (t : IntType) (target : Target) → pos 0 ≤ℤ w → IsValueOf t target w → IsBetween (pos 0) w (bitwise_of bit_and v w t target)
and_second v (negsuc w) t target up h = absurd (omega (arith, ints))
and_second v (pos w) t target up h =
    let x = pattern_of (bits_of t target) v in
    let small : bit_and x (pattern_of (bits_of t target) (pos w)) ≤ w = let p = own_pattern w t target h in let l = and_le_r x (pattern_of (bits_of t target) (pos w)) in omega (arith, p, l) in
    let same = converted-same t target (pos (bit_and x (pattern_of (bits_of t target) (pos w)))) (small_value _ w t target small h) in
    subst (λ (y : ℤ). IsBetween (pos 0) (pos w) y) (sym same) (record { low_end = omega (arith, ints); high_end = omega (arith, ints) })

-- the greatest value of a type is a row of ones, so `|` and `^` of values that are not negative are values
ones_of : (s : Bool) (w : ℕ) → (j : ℕ) × (most_of_bits s w ≡ pos (2 ^ j - 1))
ones_of true w = (w - 1, refl)
ones_of false w = (w, refl)

pub most_ones : (t : IntType) (target : Target) → (j : ℕ) × (most_of t target ≡ pos (2 ^ j - 1))
most_ones int.Bool target = (1, refl)
most_ones t target = ones_of (is_signed t target) (bits_of t target)

abbrev Widens : (ℕ → ℕ → ℕ) → Type 0
Widens f = (k a b : ℕ) → a < 2 ^ k → b < 2 ^ k → f a b < 2 ^ k

ones_value : (f : ℕ → ℕ → ℕ) → Widens f → (m n j : ℕ) (t : IntType) (target : Target) → most_of t target ≡ pos (2 ^ j - 1)
    → IsValueOf t target (pos m) → IsValueOf t target (pos n) → IsValueOf t target (pos (f m n))
ones_value f law m n j t target e h k =
    let p = pow_pos j in
    let h1 = h.most in let k1 = k.most in
    let small_m : m < 2 ^ j = omega (arith, ints) in
    let small_n : n < 2 ^ j = omega (arith, ints) in
    let small = law j m n small_m small_n in
    let low = least_low t target in
    record { least = omega (arith, ints); most = omega (arith, ints) }

pub wide : (n : ℕ) → n < 2 ^ 128 → n < 2 ^ (128 - count_leading_zeros 128 n)
wide n h =
    let l = leading_length 128 n h in
    let sum = l.1 in
    let m : 128 - count_leading_zeros 128 n ≡ l.0 = omega arith in
    subst (λ (k : ℕ). n < 2 ^ k) (sym m) l.2

below_width : (n : ℕ) (high : ℤ) → pos n ≤ℤ high → high <ℤ pos (2 ^ 64) → n < 2 ^ width_of high
below_width n (pos m) h k = let w = wide m (omega (arith, ints)) in omega (arith, ints)
below_width n (negsuc m) h k = absurd (omega (arith, ints))

bits_both : (f : ℕ → ℕ → ℕ) → Widens f → (m n k : ℕ) (t : IntType) (target : Target) → IsValueOf t target (pos m) → IsValueOf t target (pos n) → m < 2 ^ k → n < 2 ^ k
    → IsBetween (pos 0) (pos (2 ^ k - 1)) (bitwise_of f (pos m) (pos n) t target)
bits_both f law m n k t target h l small_m small_n =
    let ones = most_ones t target in
    let value = ones_value f law m n ones.0 t target ones.1 h l in
    let patterns : f (pattern_of (bits_of t target) (pos m)) (pattern_of (bits_of t target) (pos n)) ≡ f m n =
    ap (λ x. f x (pattern_of (bits_of t target) (pos n))) (own_pattern m t target h) ∙ ap (f m) (own_pattern n t target l) in
    let same : bitwise_of f (pos m) (pos n) t target ≡ pos (f m n) = ap (λ x. converted (pos x) t target) patterns ∙ converted-same t target (pos (f m n)) value in
    let small = law k m n small_m small_n in
    subst (λ (y : ℤ). IsBetween (pos 0) (pos (2 ^ k - 1)) y) (sym same) (record { low_end = omega (arith, ints); high_end = omega (arith, ints) })

or_inside : (f : ℕ → ℕ → ℕ) → Widens f → (v w ha hb : ℤ) (t : IntType) (target : Target) → pos 0 ≤ℤ v → pos 0 ≤ℤ w → v ≤ℤ ha → w ≤ℤ hb → ha <ℤ pos (2 ^ 64) → hb <ℤ pos (2 ^ 64)
    → IsValueOf t target v → IsValueOf t target w → IsBetween (pos 0) (pos (2 ^ width_of (int_max ha hb) - 1)) (bitwise_of f v w t target)
or_inside f law (negsuc m) w ha hb t target a b c d e g h k = absurd (omega (arith, ints))
or_inside f law (pos m) (negsuc n) ha hb t target a b c d e g h k = absurd (omega (arith, ints))
or_inside f law (pos m) (pos n) ha hb t target a b c d e g h k =
    let top : int_max ha hb <ℤ pos (2 ^ 64) = omega (arith, ints, clamps) in
    let over_m : pos m ≤ℤ int_max ha hb = omega (arith, ints, clamps) in
    let over_n : pos n ≤ℤ int_max ha hb = omega (arith, ints, clamps) in
    bits_both f law m n (width_of (int_max ha hb)) t target h k (below_width m (int_max ha hb) over_m top) (below_width n (int_max ha hb) over_n top)

-- what a comparison gives, where the verdict is right
verdict_has : (p q r : Bool) → (p ≡ true → r ≡ true) → (q ≡ true → r ≡ false) → EndsHave (verdict p q) (one_if r)
verdict_has true q true holds fails = (omega (arith, ints), omega (arith, ints))
verdict_has true q false holds fails = let e : false ≡ true = holds refl in cc
verdict_has false true true holds fails = let e : true ≡ false = fails refl in cc
verdict_has false true false holds fails = (omega (arith, ints), omega (arith, ints))
verdict_has false false true holds fails = (omega (arith, ints), omega (arith, ints))
verdict_has false false false holds fails = (omega (arith, ints), omega (arith, ints))

-- a greater number divided by a smaller one gives no less
pub div_both : (m n p q : ℕ) → m ≤ n → q ≤ p → m / 2 ^ p ≤ n / 2 ^ q
div_both m n p q h k =
    let pow : 2 ^ q ≤ 2 ^ p = pow_mono k in
    let a : m / 2 ^ p * 2 ^ q ≤ m / 2 ^ p * 2 ^ p = mul-le-mul_left (m / 2 ^ p) pow in
    let b = div-mul-le_self m (2 ^ p) in
    le-div (m / 2 ^ p) n (2 ^ q) (pow_pos q) (omega arith)

pub times_both : (m n p q : ℕ) → m ≤ n → p ≤ q → m * 2 ^ p ≤ n * 2 ^ q
times_both m n p q h k =
    let pow : 2 ^ p ≤ 2 ^ q = pow_mono k in
    let a : m * 2 ^ p ≤ m * 2 ^ q = mul-le-mul_left m pow in
    let b : m * 2 ^ q ≤ n * 2 ^ q = mul-le-mul_right (2 ^ q) h in
    omega arith

-- tests of equality
pub eq_true : (v w : ℤ) → v ≡ w → int_eq v w ≡ true
eq_true v w e = (Decides-int_eq v w).1 e

eq_false_by : (b : Bool) (v w : ℤ) → int_eq v w ≡ b → (v ≡ w → ⊥) → b ≡ false
eq_false_by true v w e h = absurd (h ((Decides-int_eq v w).0 e))
eq_false_by false v w e h = refl

pub eq_false : (v w : ℤ) → (v ≡ w → ⊥) → int_eq v w ≡ false
eq_false v w h = eq_false_by (int_eq v w) v w refl h

apart_by : (p : Bool) (la ha lb hb : ℤ) → int_lt ha lb ≡ p → (p || int_lt hb la) ≡ true → (ha <ℤ lb) ⊎ (hb <ℤ la)
apart_by true la ha lb hb e f = inl (grind (arith, ints))
apart_by false la ha lb hb e f = inr (grind (arith, ints))

apart_tells : (la ha lb hb : ℤ) → are_apart la ha lb hb ≡ true → (ha <ℤ lb) ⊎ (hb <ℤ la)
apart_tells la ha lb hb e = apart_by (int_lt ha lb) la ha lb hb refl e

-- a remainder is no greater than what is divided
abs_neg : (n : ℕ) → unsigned_abs (neg_ℤ (pos n)) ≡ n
abs_neg zero = refl
abs_neg (suc n) = refl

rem_size : (p q : ℤ) → unsigned_abs (int_rem p q) ≤ unsigned_abs p
rem_size (pos p) q = mod-le p (unsigned_abs q)
rem_size (negsuc p) q = rw abs_neg (mod-le (suc p) (unsigned_abs q))

-- a remainder lies between 0 and what is divided
remainder_value : (v w : ℤ) (t : IntType) (target : Target) → IsValueOf t target v → IsValueOf t target (int_rem v w)
remainder_value (pos v) w t target h =
    let l = least_low t target in
    let m = h.most in
    let r = mod-le v (unsigned_abs w) in
    record { least = omega (arith, ints); most = omega (arith, ints) }
remainder_value (negsuc v) w t target h =
    let l = h.least in
    let m = most_high t target in
    let r = mod-le (suc v) (unsigned_abs w) in
    record { least = omega (arith, ints); most = omega (arith, ints) }

module _ (la ha lb hb v w z : ℤ) (t : IntType) (target : Target) (a : IsBetween la ha v) (b : IsBetween lb hb w) where
  add_has : represented (v +ℤ w) t target ≡ Some z → EndsHave (fitted (la +ℤ lb) (ha +ℤ hb) t target) z
  add_has e =
      let p = a.low_end in let q = a.high_end in let r = b.low_end in let s = b.high_end in
      fitted_has (la +ℤ lb) (ha +ℤ hb) (v +ℤ w) z t target (omega (arith, ints)) (omega (arith, ints)) e

  sub_has : represented (v -ℤ w) t target ≡ Some z → EndsHave (fitted (la -ℤ hb) (ha -ℤ lb) t target) z
  sub_has e =
      let p = a.low_end in let q = a.high_end in let r = b.low_end in let s = b.high_end in
      fitted_has (la -ℤ hb) (ha -ℤ lb) (v -ℤ w) z t target (omega (arith, ints)) (omega (arith, ints)) e

  mul_has : represented (v *ℤ w) t target ≡ Some z → EndsHave (mul_rule la ha lb hb t target) z
  unfolding mul_rule
  mul_has e =
      let m = product_between la ha lb hb v w a.low_end a.high_end b.low_end b.high_end in
      fitted_has _ _ (v *ℤ w) z t target m.low_end m.high_end e

  div_inner : (p : Bool) → (int_le (pos 0) la && int_le (pos 0) lb) ≡ p → represented (int_div v w) t target ≡ Some z
      → EndsHave (if p then fitted (pos 0) ha t target else fitted (neg_ℤ (pos (magnitude la ha))) (pos (magnitude la ha)) t target) z
  div_inner true e r =
      let p = a.low_end in let q = a.high_end in let x = b.low_end in
      let la_up : pos 0 ≤ℤ la = grind (arith, ints) in
      let lb_up : pos 0 ≤ℤ lb = grind (arith, ints) in
      let small = quotient_small v w in
      let up : pos 0 ≤ℤ int_div v w = quotient_up v w (omega (arith, ints)) (omega (arith, ints)) in
      fitted_has (pos 0) ha (int_div v w) z t target up (omega (arith, ints)) r
  div_inner false e r =
      let p = a.low_end in let q = a.high_end in
      let small = quotient_small v w in
      fitted_has (neg_ℤ (pos (magnitude la ha))) (pos (magnitude la ha)) (int_div v w) z t target (omega (arith, ints)) (omega (arith, ints)) r

  div_outer : (p : Bool) → only_zero lb hb ≡ p → w ≢ pos 0 → represented (int_div v w) t target ≡ Some z
      → EndsHave (if p then None else (if int_le (pos 0) la && int_le (pos 0) lb then fitted (pos 0) ha t target else fitted (neg_ℤ (pos (magnitude la ha))) (pos (magnitude la ha)) t target)) z
  div_outer true e some r =
      let x = b.low_end in let y = b.high_end in
      let low : pos 0 ≤ℤ lb = grind (arith, ints) in
      let high : hb ≤ℤ pos 0 = grind (arith, ints) in
      absurd (some (omega (arith, ints)))
  div_outer false e some r = div_inner (int_le (pos 0) la && int_le (pos 0) lb) refl r

  div_has : w ≢ pos 0 → represented (int_div v w) t target ≡ Some z → EndsHave (div_rule la ha lb hb t target) z
  unfolding div_rule
  div_has some r = div_outer (only_zero lb hb) refl some r

  -- a remainder
  rem_inner : (p : Bool) → int_le (pos 0) la ≡ p → 0 < unsigned_abs w → represented (int_rem v w) t target ≡ Some (int_rem v w)
      → EndsHave (if p then fitted (pos 0) (pos (min (magnitude la ha) (magnitude lb hb - 1))) t target
      else fitted (neg_ℤ (pos (min (magnitude la ha) (magnitude lb hb - 1)))) (pos (min (magnitude la ha) (magnitude lb hb - 1))) t target) (int_rem v w)
  rem_inner true e some r =
      let p = a.low_end in let q = a.high_end in let x = b.low_end in let y = b.high_end in
      let la_up : pos 0 ≤ℤ la = grind (arith, ints) in
      let size = rem_size v w in
      let less = rem_below v w some in
      let up = remainder_up v w (omega (arith, ints)) in
      fitted_has (pos 0) (pos (min (magnitude la ha) (magnitude lb hb - 1))) (int_rem v w) (int_rem v w) t target up (omega (arith, ints)) r
  rem_inner false e some r =
      let p = a.low_end in let q = a.high_end in let x = b.low_end in let y = b.high_end in
      let size = rem_size v w in
      let less = rem_below v w some in
      fitted_has (neg_ℤ (pos (min (magnitude la ha) (magnitude lb hb - 1)))) (pos (min (magnitude la ha) (magnitude lb hb - 1))) (int_rem v w) (int_rem v w) t target (omega (arith, ints)) (omega (arith, ints)) r

  rem_outer : (p : Bool) → only_zero lb hb ≡ p → w ≢ pos 0 → 0 < unsigned_abs w → represented (int_rem v w) t target ≡ Some (int_rem v w)
      → EndsHave (if p then None else (if int_le (pos 0) la then fitted (pos 0) (pos (min (magnitude la ha) (magnitude lb hb - 1))) t target
      else fitted (neg_ℤ (pos (min (magnitude la ha) (magnitude lb hb - 1)))) (pos (min (magnitude la ha) (magnitude lb hb - 1))) t target)) (int_rem v w)
  rem_outer true e some pos_w r =
      let x = b.low_end in let y = b.high_end in
      let low : pos 0 ≤ℤ lb = grind (arith, ints) in
      let high : hb ≤ℤ pos 0 = grind (arith, ints) in
      absurd (some (omega (arith, ints)))
  rem_outer false e some pos_w r = rem_inner (int_le (pos 0) la) refl pos_w r

  rem_has : w ≢ pos 0 → 0 < unsigned_abs w → represented (int_rem v w) t target ≡ Some (int_rem v w) → EndsHave (rem_rule la ha lb hb t target) (int_rem v w)
  unfolding rem_rule
  rem_has some pos_w r = rem_outer (only_zero lb hb) refl some pos_w r

  -- the operators on bits
  and_outer : (p q : Bool) → int_le (pos 0) la ≡ p → int_le (pos 0) lb ≡ q → IsValueOf t target v → IsValueOf t target w
      → EndsHave (if p then (if q then Some (pos 0, int_min ha hb) else Some (pos 0, ha)) else (if q then Some (pos 0, hb) else whole_ends t target)) (bitwise_of bit_and v w t target)
  and_outer true true e f k l =
      let v_up : pos 0 ≤ℤ v = let p = a.low_end in grind (arith, ints) in
      let w_up : pos 0 ≤ℤ w = let p = b.low_end in grind (arith, ints) in
      let m = and_first v w t target v_up k in
      let n = and_second v w t target w_up l in
      let m0 = m.low_end in let m1 = m.high_end in let n1 = n.high_end in
      let q = a.high_end in let s = b.high_end in
      (m0, omega (arith, ints, clamps))
  and_outer true false e f k l =
      let v_up : pos 0 ≤ℤ v = let p = a.low_end in grind (arith, ints) in
      let m = and_first v w t target v_up k in
      let m0 = m.low_end in let m1 = m.high_end in let q = a.high_end in
      (m0, omega (arith, ints))
  and_outer false true e f k l =
      let w_up : pos 0 ≤ℤ w = let p = b.low_end in grind (arith, ints) in
      let n = and_second v w t target w_up l in
      let n0 = n.low_end in let n1 = n.high_end in let s = b.high_end in
      (n0, omega (arith, ints))
  and_outer false false e f k l =
      let value = bitwise_value bit_and v w t target in
      (value.least, value.most)

  and_has : IsValueOf t target v → IsValueOf t target w → EndsHave (and_rule la ha lb hb t target) (bitwise_of bit_and v w t target)
  unfolding and_rule
  and_has k l = and_outer (int_le (pos 0) la) (int_le (pos 0) lb) refl refl k l

  or_outer : (f : ℕ → ℕ → ℕ) → Widens f → (p : Bool) → (int_le (pos 0) la && int_le (pos 0) lb) ≡ p → ha <ℤ pos (2 ^ 64) → hb <ℤ pos (2 ^ 64) → IsValueOf t target v → IsValueOf t target w
      → EndsHave (if p then Some (pos 0, pos (2 ^ width_of (int_max ha hb) - 1)) else whole_ends t target) (bitwise_of f v w t target)
  or_outer f law true e top_a top_b k l =
      let la_up : pos 0 ≤ℤ la = grind (arith, ints) in
      let lb_up : pos 0 ≤ℤ lb = grind (arith, ints) in
      let p = a.low_end in let q = b.low_end in
      let m = or_inside f law v w ha hb t target (omega (arith, ints)) (omega (arith, ints)) a.high_end b.high_end top_a top_b k l in
      (m.low_end, m.high_end)
  or_outer f law false e top_a top_b k l =
      let value = bitwise_value f v w t target in
      (value.least, value.most)

  or_has : (f : ℕ → ℕ → ℕ) → Widens f → ha <ℤ pos (2 ^ 64) → hb <ℤ pos (2 ^ 64) → IsValueOf t target v → IsValueOf t target w → EndsHave (or_rule la ha lb hb t target) (bitwise_of f v w t target)
  unfolding or_rule
  or_has f law top_a top_b k l = or_outer f law (int_le (pos 0) la && int_le (pos 0) lb) refl top_a top_b k l

  -- comparisons
  lt_has : EndsHave (lt_rule la ha lb hb) (one_if (int_lt v w))
  lt_has =
      let p = a.low_end in let q = a.high_end in let r = b.low_end in let s = b.high_end in
      verdict_has (int_lt ha lb) (int_le hb la) (int_lt v w) (λ e. grind (arith, ints)) (λ e. grind (arith, ints))

  le_has : EndsHave (le_rule la ha lb hb) (one_if (int_le v w))
  le_has =
      let p = a.low_end in let q = a.high_end in let r = b.low_end in let s = b.high_end in
      verdict_has (int_le ha lb) (int_lt hb la) (int_le v w) (λ e. grind (arith, ints)) (λ e. grind (arith, ints))

  one_same : are_one la ha lb hb ≡ true → v ≡ w
  one_same e =
      let p = a.low_end in let q = a.high_end in let r = b.low_end in let s = b.high_end in
      let h : ha ≤ℤ lb = grind (arith, ints) in
      let k : hb ≤ℤ la = grind (arith, ints) in
      omega (arith, ints)

  apart_other : are_apart la ha lb hb ≡ true → v ≡ w → ⊥
  apart_other e same =
      let p = a.low_end in let q = a.high_end in let r = b.low_end in let s = b.high_end in
      let h : (ha <ℤ lb) ⊎ (hb <ℤ la) = apart_tells la ha lb hb e in
      ⊎_elim (λ (x : ha <ℤ lb). absurd (omega (arith, ints))) (λ (x : hb <ℤ la). absurd (omega (arith, ints))) h

  pub eq_has : EndsHave (eq_rule la ha lb hb) (one_if (int_eq v w))
  eq_has = verdict_has (are_one la ha lb hb) (are_apart la ha lb hb) (int_eq v w) (λ e. eq_true v w (one_same e)) (λ e. eq_false v w (apart_other e))

  pub ne_has : EndsHave (ne_rule la ha lb hb) (one_if (not (int_eq v w)))
  ne_has = verdict_has (are_apart la ha lb hb) (are_one la ha lb hb) (not (int_eq v w)) (λ e. ap not (eq_false v w (apart_other e))) (λ e. ap not (eq_true v w (one_same e)))

-- shifts, whose counts are cut to those that do not trap

count_fits : (lb hb : ℤ) (n width : ℕ) → IsBetween lb hb (pos n) → n < width
    → counts_of lb hb width ≡ Some (int_max (pos 0) lb, int_min (pos width -ℤ pos 1) hb)
count_fits lb hb n width b h =
    let p = b.low_end in let q = b.high_end in
    between_some (int_max (pos 0) lb) (int_min (pos width -ℤ pos 1) hb) (omega (arith, ints, clamps))

count_most : (hb : ℤ) (n width : ℕ) → pos n ≤ℤ hb → n < width → n ≤ unsigned_abs (int_min (pos width -ℤ pos 1) hb)
count_most hb n width h l = by_sign (int_min (pos width -ℤ pos 1) hb) (omega (arith, ints, clamps))
  where
    by_sign : (x : ℤ) → pos n ≤ℤ x → n ≤ unsigned_abs x
    by_sign (pos x) k = omega (arith, ints)
    by_sign (negsuc x) k = absurd (omega (arith, ints))

count_least : (lb : ℤ) (n : ℕ) → lb ≤ℤ pos n → unsigned_abs (int_max (pos 0) lb) ≤ n
count_least lb n h = by_sign (int_max (pos 0) lb) (omega (arith, ints, clamps)) (omega (arith, ints, clamps))
  where
    by_sign : (x : ℤ) → pos 0 ≤ℤ x → x ≤ℤ pos n → unsigned_abs x ≤ n
    by_sign (pos x) k l = omega (arith, ints)
    by_sign (negsuc x) k l = absurd (omega (arith, ints))

shl_inner : (ha hb : ℤ) (m n width : ℕ) (lc z : ℤ) (t : IntType) (target : Target) → pos m ≤ℤ ha → pos n ≤ℤ hb → n < width
    → represented (pos m *ℤ pos (2 ^ n)) t target ≡ Some z → EndsHave (shl_by (Some (lc, int_min (pos width -ℤ pos 1) hb)) ha t target) z
shl_inner (negsuc h) hb m n width lc z t target a b l e = absurd (omega (arith, ints))
shl_inner (pos h) hb m n width lc z t target a b l e =
    let c = unsigned_abs (int_min (pos width -ℤ pos 1) hb) in
    let up : n ≤ unsigned_abs (int_min (pos width -ℤ pos 1) hb) = count_most hb n width b l in
    let more : m * 2 ^ n ≤ h * 2 ^ unsigned_abs (int_min (pos width -ℤ pos 1) hb) = times_both m h n _ (omega (arith, ints)) up in
    fitted_has (pos 0) (pos h *ℤ pos (2 ^ unsigned_abs (int_min (pos width -ℤ pos 1) hb))) (pos m *ℤ pos (2 ^ n)) z t target (omega (arith, ints)) (omega (arith, ints)) e

shl_outer : (p : Bool) (la ha lb hb : ℤ) (m n : ℕ) (z : ℤ) (t : IntType) (target : Target) → int_lt ha (pos 0) ≡ p → IsBetween la ha (pos m) → IsBetween lb hb (pos n) → n < bits_of t target
    → represented (pos m *ℤ pos (2 ^ n)) t target ≡ Some z → EndsHave (if p then None else shl_by (counts_of lb hb (bits_of t target)) ha t target) z
shl_outer true la ha lb hb m n z t target e a b l r =
    let q = a.high_end in
    let down : ha <ℤ pos 0 = grind (arith, ints) in
    absurd (omega (arith, ints))
shl_outer false la ha lb hb m n z t target e a b l r =
    subst (λ (c : Ends). EndsHave (shl_by c ha t target) z) (sym (count_fits lb hb n (bits_of t target) b l))
    (shl_inner ha hb m n (bits_of t target) (int_max (pos 0) lb) z t target a.high_end b.high_end l r)

shl_in : (la ha lb hb : ℤ) (m n : ℕ) (z : ℤ) (t : IntType) (target : Target) → IsBetween la ha (pos m) → IsBetween lb hb (pos n) → n < bits_of t target
    → represented (pos m *ℤ pos (2 ^ n)) t target ≡ Some z → EndsHave (shl_rule la ha lb hb t target) z
unfolding shl_rule
shl_in la ha lb hb m n z t target a b l r = shl_outer (int_lt ha (pos 0)) la ha lb hb m n z t target refl a b l r

shr_low : (la v : ℤ) (n : ℕ) → la ≤ℤ v → int_min (pos 0) la ≤ℤ floor_of v n
shr_low la (pos m) n h = omega (arith, ints, clamps)
shr_low la (negsuc m) n h = let d = div-le_self m (2 ^ n) in omega (arith, ints, clamps)

shr_high : (p : Bool) (ha v : ℤ) (n q : ℕ) → int_lt ha (pos 0) ≡ p → v ≤ℤ ha → q ≤ n → floor_of v n ≤ℤ (if p then neg_ℤ (pos 1) else floor_of ha q)
shr_high true ha (pos m) n q e h k = let down : ha <ℤ pos 0 = grind (arith, ints) in absurd (omega (arith, ints))
shr_high true ha (negsuc m) n q e h k = omega (arith, ints)
shr_high false (negsuc h) (pos m) n q e l k = absurd (omega (arith, ints))
shr_high false (pos h) (pos m) n q e l k = let d = div_both m h n q (omega (arith, ints)) k in omega (arith, ints)
shr_high false (negsuc h) (negsuc m) n q e l k = cc
shr_high false (pos h) (negsuc m) n q e l k = omega (arith, ints)

shr_in : (la ha lb hb v : ℤ) (n : ℕ) (t : IntType) (target : Target) → IsBetween la ha v → IsBetween lb hb (pos n) → n < bits_of t target
    → EndsHave (shr_rule la ha lb hb t target) (floor_of v n)
unfolding shr_rule
shr_in la ha lb hb v n t target a b l =
    subst (λ (c : Ends). EndsHave (shr_by c la ha) (floor_of v n)) (sym (count_fits lb hb n (bits_of t target) b l))
    (shr_low la v n a.low_end, shr_high (int_lt ha (pos 0)) ha v n (unsigned_abs (int_max (pos 0) lb)) refl a.high_end (count_least lb n b.low_end))

-- a count that does not trap
shl_by_count : (p : Bool) (la ha lb hb v z : ℤ) (n : ℕ) (t : IntType) (target : Target) → nat_lt n (bits_of t target) ≡ p → IsBetween la ha v → IsBetween lb hb (pos n)
    → option_and_then (left_of v t target) (if p then Some n else None) ≡ Some z → EndsHave (shl_rule la ha lb hb t target) z
shl_by_count true la ha lb hb (pos m) z n t target e a b r = shl_in la ha lb hb m n z t target a b (grind (arith, nat_tests)) r
shl_by_count true la ha lb hb (negsuc m) z n t target e a b r = let none : None ≡ Some z = r in cc
shl_by_count false la ha lb hb v z n t target e a b r = let none : None ≡ Some z = r in cc

shl_has : (la ha lb hb v w z : ℤ) (t : IntType) (target : Target) → IsBetween la ha v → IsBetween lb hb w → shl_of v w t target ≡ Some z → EndsHave (shl_rule la ha lb hb t target) z
shl_has la ha lb hb v (pos n) z t target a b r = shl_by_count (nat_lt n (bits_of t target)) la ha lb hb v z n t target refl a b r
shl_has la ha lb hb v (negsuc n) z t target a b r = let none : None ≡ Some z = r in cc

shr_by_count : (p : Bool) (la ha lb hb v z : ℤ) (n : ℕ) (t : IntType) (target : Target) → nat_lt n (bits_of t target) ≡ p → IsBetween la ha v → IsBetween lb hb (pos n)
    → option_map (floor_of v) (if p then Some n else None) ≡ Some z → EndsHave (shr_rule la ha lb hb t target) z
shr_by_count true la ha lb hb v z n t target e a b r =
    let same : floor_of v n ≡ z = let f : Some (floor_of v n) ≡ Some z = r in cc in
    subst (λ (y : ℤ). EndsHave (shr_rule la ha lb hb t target) y) same (shr_in la ha lb hb v n t target a b (grind (arith, nat_tests)))
shr_by_count false la ha lb hb v z n t target e a b r = let none : None ≡ Some z = r in cc

shr_has : (la ha lb hb v w z : ℤ) (t : IntType) (target : Target) → IsBetween la ha v → IsBetween lb hb w → shr_of v w t target ≡ Some z → EndsHave (shr_rule la ha lb hb t target) z
shr_has la ha lb hb v (pos n) z t target a b r = shr_by_count (nat_lt n (bits_of t target)) la ha lb hb v z n t target refl a b r
shr_has la ha lb hb v (negsuc n) z t target a b r = let none : None ≡ Some z = r in cc

-- any operator

pub named : {x z : ℤ} (xs : Ends) → Some x ≡ Some z → EndsHave xs x → EndsHave xs z
named {x = x} {z = z} xs e h = let same : x ≡ z = cc in subst (λ (y : ℤ). EndsHave xs y) same h

pos_size : (w : ℤ) → w ≢ pos 0 → 0 < unsigned_abs w
pos_size (pos zero) h = absurd (h refl)
pos_size (pos (suc n)) h = omega arith
pos_size (negsuc n) h = omega arith

div_some : (la ha lb hb v w z : ℤ) (t : IntType) (target : Target) → IsBetween la ha v → IsBetween lb hb w → quotient_of v w t target ≡ Some z → EndsHave (div_rule la ha lb hb t target) z
div_some la ha lb hb v (pos zero) z t target a b r = let none : None ≡ Some z = r in cc
div_some la ha lb hb v (pos (suc n)) z t target a b r = div_has la ha lb hb v (pos (suc n)) z t target a b (λ e. cc) r
div_some la ha lb hb v (negsuc n) z t target a b r = div_has la ha lb hb v (negsuc n) z t target a b (λ e. cc) r

rem_by : (q : Option ℤ) (la ha lb hb v w z : ℤ) (t : IntType) (target : Target) → IsBetween la ha v → IsBetween lb hb w → w ≢ pos 0 → IsValueOf t target v → IsValueOf t target w
    → quotient_of v w t target ≡ q → remainder_of v w t target ≡ Some z → EndsHave (rem_rule la ha lb hb t target) z
rem_by None la ha lb hb v w z t target a b some h k e r = let none : None ≡ Some z = sym (remainder_none v w t target e) ∙ r in cc
rem_by (Some q) la ha lb hb v w z t target a b some h k e r =
    let f : remainder_of v w t target ≡ Some (int_rem v w) = remainder_some v w q t target some h k e in
    named (rem_rule la ha lb hb t target) (sym f ∙ r)
    (rem_has la ha lb hb v w (int_rem v w) t target a b some (pos_size w some) (represented_same (int_rem v w) t target (remainder_value v w t target h)))

rem_some : (la ha lb hb v w z : ℤ) (t : IntType) (target : Target) → IsBetween la ha v → IsBetween lb hb w → IsValueOf t target v → IsValueOf t target w
    → remainder_of v w t target ≡ Some z → EndsHave (rem_rule la ha lb hb t target) z
rem_some la ha lb hb v (pos zero) z t target a b h k r = let none : None ≡ Some z = r in cc
rem_some la ha lb hb v (pos (suc n)) z t target a b h k r = rem_by (quotient_of v (pos (suc n)) t target) la ha lb hb v (pos (suc n)) z t target a b (λ e. cc) h k refl r
rem_some la ha lb hb v (negsuc n) z t target a b h k r = rem_by (quotient_of v (negsuc n) t target) la ha lb hb v (negsuc n) z t target a b (λ e. cc) h k refl r

pub rule_has : (o : BinOp) (la ha lb hb v w z : ℤ) (t : IntType) (target : Target) → IsBetween la ha v → IsBetween lb hb w → ha <ℤ pos (2 ^ 64) → hb <ℤ pos (2 ^ 64)
    → IsValueOf t target v → (is_shift o ≡ false → IsValueOf t target w) → result_of o v w t target ≡ Some z → EndsHave (rule_of o la ha lb hb t target) z
unfolding result_of rule_of
rule_has op.Add la ha lb hb v w z t target a b top_a top_b h k r = add_has la ha lb hb v w z t target a b r
rule_has op.Sub la ha lb hb v w z t target a b top_a top_b h k r = sub_has la ha lb hb v w z t target a b r
rule_has op.Mul la ha lb hb v w z t target a b top_a top_b h k r = mul_has la ha lb hb v w z t target a b r
rule_has op.Div la ha lb hb v w z t target a b top_a top_b h k r = div_some la ha lb hb v w z t target a b r
rule_has op.Rem la ha lb hb v w z t target a b top_a top_b h k r = rem_some la ha lb hb v w z t target a b h (k refl) r
rule_has op.And la ha lb hb v w z t target a b top_a top_b h k r = named (and_rule la ha lb hb t target) r (and_has la ha lb hb v w z t target a b h (k refl))
rule_has op.Or la ha lb hb v w z t target a b top_a top_b h k r = named (or_rule la ha lb hb t target) r (or_has la ha lb hb v w z t target a b bit_or or_lt top_a top_b h (k refl))
rule_has op.Xor la ha lb hb v w z t target a b top_a top_b h k r = named (or_rule la ha lb hb t target) r (or_has la ha lb hb v w z t target a b bit_xor xor_lt top_a top_b h (k refl))
rule_has op.Shl la ha lb hb v w z t target a b top_a top_b h k r = shl_has la ha lb hb v w z t target a b r
rule_has op.Shr la ha lb hb v w z t target a b top_a top_b h k r = shr_has la ha lb hb v w z t target a b r
rule_has op.Lt la ha lb hb v w z t target a b top_a top_b h k r = named (lt_rule la ha lb hb) r (lt_has la ha lb hb v w z t target a b)
rule_has op.Le la ha lb hb v w z t target a b top_a top_b h k r = named (le_rule la ha lb hb) r (le_has la ha lb hb v w z t target a b)
rule_has op.Gt la ha lb hb v w z t target a b top_a top_b h k r = named (lt_rule lb hb la ha) r (lt_has lb hb la ha w v z t target b a)
rule_has op.Ge la ha lb hb v w z t target a b top_a top_b h k r = named (le_rule lb hb la ha) r (le_has lb hb la ha w v z t target b a)
rule_has op.Eq la ha lb hb v w z t target a b top_a top_b h k r = named (eq_rule la ha lb hb) r (eq_has la ha lb hb v w z t target a b)
rule_has op.Ne la ha lb hb v w z t target a b top_a top_b h k r = named (ne_rule la ha lb hb) r (ne_has la ha lb hb v w z t target a b)
