-- The laws of / and %, of the floor that a shift to the right gives, and when a quotient traps: a
-- quotient is no greater than what is divided, so of a signed type it leaves the range at MIN / -1 only.
use Rattle.std.proofs.Common.{◌≡◌, ◌≢◌, ℕ, zero, suc, ◌+◌, ◌*◌, ◌-◌, ◌/◌, ◌%◌, ◌^◌, ◌<◌, ◌≤◌, Bool, true, false, ℤ, pos, negsuc, neg_ℤ, ◌+ℤ◌, ◌-ℤ◌, ◌*ℤ◌, ◌≤ℤ◌, ◌<ℤ◌, Some, None, unsigned_abs, int_div, int_rem, refl, sym, ap, subst, ◌∙◌, arith, mod-lt, div-add-mod', pow_pos, div-le_self, div-one, mul-le-mul_left, ⊎_elim, inl, inr, ◌↔◌, if◌then◌else◌}
use Rattle.std.proofs.lemmas.Int.{ints, quot-rem, rem_below, by_lt_z}
use Rattle.std.proofs.lemmas.Bool.{cases_lt}
use Rattle.cc_num.specs.declared.int_type.IntType.{IntType}
use Rattle.cc_num.specs.declared.int_type.IntType.TheVariants as int
use Rattle.cc_num.specs.declared.target.Target.{Target}
use Rattle.cc_num.specs.Integers.{bits_of, is_signed, least_of, most_of, least_of_bits, most_of_bits, IsValueOf, is_value_of, converted}
use Rattle.cc_num.specs.Results.{represented, quotient_of, remainder_of, floor_of, IsQuotient, IsDivisionTrap}
use Rattle.cc_num.proofs.ResultLaws.{quotient_is, quotient_by_sign, remainder_some, least_low, most_high, represented_same, represented_signed, represented_unsigned, value_from_test}
use Rattle.cc_num.proofs.Conversions.{some_bytes}

not_zero : (b : ℤ) → b ≢ pos 0 → 0 < unsigned_abs b
not_zero (pos zero) h = absurd (h refl)
not_zero (pos (suc b)) h = omega arith
not_zero (negsuc b) h = omega arith

remainder_up : (a b : ℤ) → pos 0 ≤ℤ a → pos 0 ≤ℤ int_rem a b
remainder_up (pos a) b h = omega (arith, ints)
remainder_up (negsuc a) b h = absurd (omega (arith, ints))

remainder_down : (a b : ℤ) → a ≤ℤ pos 0 → int_rem a b ≤ℤ pos 0
remainder_down (pos zero) b h = omega (arith, ints)
remainder_down (pos (suc a)) b h = absurd (omega (arith, ints))
remainder_down (negsuc a) b h = omega (arith, ints)

pub truncates : (a b : ℤ) → b ≢ pos 0 → IsQuotient a b (int_div a b) (int_rem a b)
truncates a b h = record { sum = sym (quot-rem a b); below = rem_below a b (not_zero b h); positive = remainder_up a b; negative = remainder_down a b }

-- what / and % give
divides_by : (a b q : ℤ) (t : IntType) (target : Target) → b ≢ pos 0 → IsValueOf t target a → IsValueOf t target b → quotient_of a b t target ≡ Some q → (r : ℤ) × (remainder_of a b t target ≡ Some r) × IsQuotient a b q r
divides_by a b q t target some h k e =
    let f : represented (int_div a b) t target ≡ Some q = sym (quotient_is a b t target some) ∙ e in
    let exact : q ≡ int_div a b = quotient_by_sign (is_signed t target) a b q t target refl h k f in
    (int_rem a b, remainder_some a b q t target some h k e, subst (λ (x : ℤ). IsQuotient a b x (int_rem a b)) (sym exact) (truncates a b some))

pub divides : (a b q : ℤ) (t : IntType) (target : Target) → IsValueOf t target a → IsValueOf t target b → quotient_of a b t target ≡ Some q → (r : ℤ) × (remainder_of a b t target ≡ Some r) × IsQuotient a b q r
divides a (pos zero) q t target h k e = let n : None ≡ Some q = e in cc
divides a (pos (suc b)) q t target h k e = divides_by a (pos (suc b)) q t target (λ z. cc) h k e
divides a (negsuc b) q t target h k e = divides_by a (negsuc b) q t target (λ z. cc) h k e

-- the floor
pub floor_low : (a : ℤ) (n : ℕ) → (floor_of a n *ℤ pos (2 ^ n)) ≤ℤ a
floor_low (pos a) n = let s = div-add-mod' a (2 ^ n) in omega (arith, ints)
floor_low (negsuc a) n = let s = div-add-mod' a (2 ^ n) in let b = mod-lt a (pow_pos n) in omega (arith, ints)

above_minus : (q m a : ℕ) → q * m ≤ a → negsuc a <ℤ ((negsuc q +ℤ pos 1) *ℤ pos m)
above_minus zero m a h = omega (arith, ints)
above_minus (suc q) m a h =
    let e : negsuc (suc q) +ℤ pos 1 ≡ negsuc q = omega (arith, ints) in
    subst (λ (x : ℤ). negsuc a <ℤ (x *ℤ pos m)) (sym e) (omega (arith, ints))

pub floor_high : (a : ℤ) (n : ℕ) → a <ℤ ((floor_of a n +ℤ pos 1) *ℤ pos (2 ^ n))
floor_high (pos a) n = let s = div-add-mod' a (2 ^ n) in let b = mod-lt a (pow_pos n) in omega (arith, ints)
floor_high (negsuc a) n = let s = div-add-mod' a (2 ^ n) in above_minus (a / 2 ^ n) (2 ^ n) a (omega arith)

-- a quotient that is out of the range of a signed type
signed_ends : (s : Bool) (w : ℕ) → s ≡ true → 8 ≤ w → least_of_bits s w ≡ neg_ℤ (most_of_bits s w) -ℤ pos 1
signed_ends true w s h = let p = pow_pos (w - 1) in omega (arith, ints)
signed_ends false w s h = cc

pub ends_apart : (t : IntType) (target : Target) → is_signed t target ≡ true → least_of t target ≡ neg_ℤ (most_of t target) -ℤ pos 1
ends_apart int.Bool target s = cc
ends_apart t target s = let h = some_bytes t target in signed_ends (is_signed t target) (bits_of t target) s (omega arith)

halved : (a b : ℕ) → suc a / suc (suc b) ≤ a
halved a b =
    let k = suc (suc b) in
    let q = suc a / k in
    let s : q * k + suc a % k ≡ suc a = div-add-mod' (suc a) k in
    let two : q * 2 ≤ q * k = mul-le-mul_left q (omega arith) in
    ⊎_elim (λ (more : a < q). absurd (omega arith)) (λ (done : q ≤ a). done) (cases_lt a q)

-- the test of the quotient fails at MIN / -1 only
overflows_at : (a b : ℤ) (t : IntType) (target : Target) → is_signed t target ≡ true → b ≢ pos 0 → IsValueOf t target a → (IsValueOf t target (int_div a b) → ⊥) → (a ≡ least_of t target) × (b ≡ negsuc 0)
overflows_at a (pos zero) t target s some h not = absurd (some refl)
overflows_at (pos a) (pos (suc b)) t target s some h not =
    let l = least_low t target in
    let m = h.most in
    let d = div-le_self a (suc b) in
    absurd (not (record { least = omega (arith, ints); most = omega (arith, ints) }))
overflows_at (pos a) (negsuc b) t target s some h not =
    let e = ends_apart t target s in
    let u = most_high t target in
    let m = h.most in
    let d = div-le_self a (suc b) in
    absurd (not (record { least = omega (arith, ints); most = omega (arith, ints) }))
overflows_at (negsuc a) (pos (suc b)) t target s some h not =
    let u = most_high t target in
    let m = h.least in
    let d = div-le_self (suc a) (suc b) in
    absurd (not (record { least = omega (arith, ints); most = omega (arith, ints) }))
overflows_at (negsuc a) (negsuc zero) t target s some h not =
    let e = ends_apart t target s in
    let l = least_low t target in
    let m = h.least in
    let d : suc a / suc zero ≡ suc a = div-one (suc a) in
    by_lt_z (most_of t target) (pos (suc a))
    (λ above. (omega (arith, ints), refl))
    (λ within. absurd (not (record { least = omega (arith, ints); most = omega (arith, ints) })))
overflows_at (negsuc a) (negsuc (suc b)) t target s some h not =
    let e = ends_apart t target s in
    let l = least_low t target in
    let m = h.least in
    let d = halved a b in
    absurd (not (record { least = omega (arith, ints); most = omega (arith, ints) }))

-- no quotient
no_quotient_by : (s : Bool) (a b : ℤ) (t : IntType) (target : Target) → is_signed t target ≡ s → b ≢ pos 0 → IsValueOf t target a → represented (int_div a b) t target ≡ None → (is_signed t target ≡ true) × (a ≡ least_of t target) × (b ≡ negsuc 0)
no_quotient_by true a b t target s some h e =
    let o = overflows_at a b t target s some h (λ v. let r = represented_same (int_div a b) t target v in let n : Some (int_div a b) ≡ None = sym r ∙ e in cc) in
    (s, o.0, o.1)
no_quotient_by false a b t target s some h e = let n : Some (converted (int_div a b) t target) ≡ None = sym (represented_unsigned (int_div a b) t target s) ∙ e in cc

false_unless : (b : Bool) → (b ≡ true → ⊥) → b ≡ false
false_unless true h = absurd (h refl)
false_unless false h = refl

division_traps_at : (a b : ℤ) (t : IntType) (target : Target) → is_signed t target ≡ true → a ≡ least_of t target → b ≡ negsuc 0 → quotient_of a b t target ≡ None
division_traps_at (pos a) b t target s e f = let l = ends_apart t target s in let m = most_high t target in absurd (omega (arith, ints))
division_traps_at (negsuc a) (pos b) t target s e f = cc
division_traps_at (negsuc a) (negsuc (suc b)) t target s e f = cc
division_traps_at (negsuc a) (negsuc zero) t target s e f =
    let l = ends_apart t target s in
    let d : suc a / suc zero ≡ suc a = div-one (suc a) in
    let fails : is_value_of t target (int_div (negsuc a) (negsuc zero)) ≡ false =
    false_unless (is_value_of t target (int_div (negsuc a) (negsuc zero))) (λ v. let m = (value_from_test t target (int_div (negsuc a) (negsuc zero)) v).most in absurd (omega (arith, ints))) in
    represented_signed (int_div (negsuc a) (negsuc zero)) t target s ∙ ap (λ v. if v then Some (int_div (negsuc a) (negsuc zero)) else None) fails

traps_only : (a b : ℤ) (t : IntType) (target : Target) → IsValueOf t target a → quotient_of a b t target ≡ None → IsDivisionTrap a b t target
traps_only a (pos zero) t target h e = inl refl
traps_only a (pos (suc b)) t target h e = inr (no_quotient_by (is_signed t target) a (pos (suc b)) t target refl (λ z. cc) h e)
traps_only a (negsuc b) t target h e = inr (no_quotient_by (is_signed t target) a (negsuc b) t target refl (λ z. cc) h e)

pub division_traps : (a b : ℤ) (t : IntType) (target : Target) → IsValueOf t target a → (quotient_of a b t target ≡ None) ↔ IsDivisionTrap a b t target
division_traps a b t target h = (
  traps_only a b t target h,
  ⊎_elim (λ (z : b ≡ pos 0). subst (λ (x : ℤ). quotient_of a x t target ≡ None) (sym z) refl)
      (λ (m : (is_signed t target ≡ true) × (a ≡ least_of t target) × (b ≡ neg_ℤ (pos 1))). division_traps_at a b t target m.0 m.1 m.2),
)
