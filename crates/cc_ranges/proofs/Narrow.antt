-- The ends of intervals are so small that sums, differences and negations of them are exact in 128 bits.
use Rattle.std.proofs.Common.{◌≡◌, ℕ, ◌-◌, ◌^◌, ◌≤◌, ◌<◌, Bool, true, false, ℤ, pos, neg_ℤ, ◌+ℤ◌, ◌-ℤ◌, ◌≤ℤ◌, ◌<ℤ◌, int_le, int_lt, sym, subst, arith, pow_mono, FitsSigned, to_z, of_z, to_z-of_z}
use Rattle.std.specs.Int.{w128, int_max, int_min}
use Rattle.std.proofs.lemmas.Int.{ints, clamps, by_lt_z}
use Rattle.cc_num.specs.declared.int_type.IntType.{IntType}
use Rattle.cc_num.specs.declared.int_type.IntType.TheVariants as int
use Rattle.cc_num.specs.declared.target.Target.{Target}
use Rattle.cc_num.specs.Integers.{bits_of, is_signed, least_of_bits, most_of_bits, least_of, most_of}
use Rattle.cc_num.proofs.Conversions.{few_bytes}
use Rattle.cc_num.proofs.Exact.{IsNarrow, narrow_fits}
use Rattle.cc_ranges.specs.Ends.{IsInterval}
use Rattle.cc_ranges.specs.laws.Fits.{lt_true}

pub low_narrow : (low high : ℤ) → IsInterval low high → IsNarrow low
low_narrow low high p =
    let o = p.ordered in let l = p.least in let m = p.most in
    record { low = l; high = omega (arith, ints) }

pub high_narrow : (low high : ℤ) → IsInterval low high → IsNarrow high
high_narrow low high p =
    let o = p.ordered in let l = p.least in let m = p.most in
    record { low = omega (arith, ints); high = m }

pub narrow_same : (a : ℤ) → IsNarrow a → to_z w128 (of_z w128 a) ≡ a
narrow_same a p = to_z-of_z (narrow_fits a p)

pub negated_exact : (a : ℤ) → IsNarrow a → to_z w128 (of_z w128 (pos 0 -ℤ to_z w128 (of_z w128 a))) ≡ neg_ℤ a
negated_exact a p = let p1 = p.low in let p2 = p.high in omega (arith, ints)

-- an end that is moved by one
pub less_one : (a : ℤ) → IsNarrow a → to_z w128 (of_z w128 (to_z w128 (of_z w128 a) -ℤ pos 1)) ≡ a -ℤ pos 1
less_one a p = let p1 = p.low in let p2 = p.high in omega (arith, ints)

pub more_one : (a : ℤ) → IsNarrow a → to_z w128 (of_z w128 (to_z w128 (of_z w128 a) +ℤ pos 1)) ≡ a +ℤ pos 1
more_one a p = let p1 = p.low in let p2 = p.high in omega (arith, ints)

pub less_fits : (a : ℤ) → IsNarrow a → FitsSigned w128 (to_z w128 (of_z w128 a) -ℤ pos 1)
less_fits a p = let p1 = p.low in let p2 = p.high in omega (arith, ints)

pub more_fits : (a : ℤ) → IsNarrow a → FitsSigned w128 (to_z w128 (of_z w128 a) +ℤ pos 1)
more_fits a p = let p1 = p.low in let p2 = p.high in omega (arith, ints)

pub more_least : (a : ℤ) → IsNarrow a → neg_ℤ (pos (2 ^ 63)) ≤ℤ to_z w128 (of_z w128 (to_z w128 (of_z w128 a) +ℤ pos 1))
more_least a p = let p1 = p.low in let e = more_one a p in omega (arith, ints)

pub less_most : (a : ℤ) → IsNarrow a → to_z w128 (of_z w128 (to_z w128 (of_z w128 a) -ℤ pos 1)) <ℤ pos (2 ^ 64)
less_most a p = let p2 = p.high in let e = less_one a p in omega (arith, ints)

-- an end as it is read, and the greater or the lesser of two
pub read_least : (a : ℤ) → IsNarrow a → neg_ℤ (pos (2 ^ 63)) ≤ℤ to_z w128 (of_z w128 a)
read_least a p = subst (λ (x : ℤ). neg_ℤ (pos (2 ^ 63)) ≤ℤ x) (sym (narrow_same a p)) p.low

pub read_most : (a : ℤ) → IsNarrow a → to_z w128 (of_z w128 a) <ℤ pos (2 ^ 64)
read_most a p = subst (λ (x : ℤ). x <ℤ pos (2 ^ 64)) (sym (narrow_same a p)) p.high

greater_least : (r x y : ℤ) → r ≡ int_max x y → neg_ℤ (pos (2 ^ 63)) ≤ℤ x → neg_ℤ (pos (2 ^ 63)) ≤ℤ r
greater_least r x y e h = omega (arith, ints, clamps)

lesser_most : (r x y : ℤ) → r ≡ int_min x y → x <ℤ pos (2 ^ 64) → r <ℤ pos (2 ^ 64)
lesser_most r x y e h = omega (arith, ints, clamps)

pub max_least : (r y a : ℤ) → IsNarrow a → FitsSigned w128 r → r ≡ int_max (to_z w128 (of_z w128 a)) y → neg_ℤ (pos (2 ^ 63)) ≤ℤ to_z w128 (of_z w128 r)
max_least r y a p f e = subst (λ (x : ℤ). neg_ℤ (pos (2 ^ 63)) ≤ℤ x) (sym (to_z-of_z f)) (greater_least r (to_z w128 (of_z w128 a)) y e (read_least a p))

pub min_most : (r y a : ℤ) → IsNarrow a → FitsSigned w128 r → r ≡ int_min (to_z w128 (of_z w128 a)) y → to_z w128 (of_z w128 r) <ℤ pos (2 ^ 64)
min_most r y a p f e = subst (λ (x : ℤ). x <ℤ pos (2 ^ 64)) (sym (to_z-of_z f)) (lesser_most r (to_z w128 (of_z w128 a)) y e (read_most a p))

-- the ends of a type
most_by : (s : Bool) (w : ℕ) → s ≡ true → w ≤ 64 → most_of_bits s w <ℤ pos (2 ^ 63)
most_by true w e h = let few : w - 1 ≤ 63 = omega arith in let p = pow_mono few in omega (arith, ints)
most_by false w e h = cc

pub signed_most : (t : IntType) (target : Target) → is_signed t target ≡ true → most_of t target <ℤ pos (2 ^ 63)
signed_most int.Bool target e = cc
signed_most t target e = let few = few_bytes t target in most_by (is_signed t target) (bits_of t target) e (omega arith)

least_by : (s : Bool) (w : ℕ) → s ≡ false → pos 0 ≤ℤ least_of_bits s w
least_by true w e = cc
least_by false w e = omega (arith, ints)

pub unsigned_least : (t : IntType) (target : Target) → is_signed t target ≡ false → pos 0 ≤ℤ least_of t target
unsigned_least int.Bool target e = omega (arith, ints)
unsigned_least t target e = least_by (is_signed t target) (bits_of t target) e

-- tests of an end
pub test_low : (a : ℤ) (b : Bool) → IsNarrow a → int_le (pos 0) (to_z w128 (of_z w128 a)) ≡ b → int_le (pos 0) a ≡ b
test_low a b p h = subst (λ (x : ℤ). int_le (pos 0) x ≡ b) (narrow_same a p) h

pub test_high : (a : ℤ) (b : Bool) → IsNarrow a → int_lt (to_z w128 (of_z w128 a)) (pos 0) ≡ b → int_lt a (pos 0) ≡ b
test_high a b p h = subst (λ (x : ℤ). int_lt x (pos 0) ≡ b) (narrow_same a p) h

pub not_less : (a : ℤ) → int_lt a (pos 0) ≡ false → pos 0 ≤ℤ a
not_less a h = by_lt_z a (pos 0) (λ (less : a <ℤ pos 0). let e = lt_true a (pos 0) less in cc) (λ (up : pos 0 ≤ℤ a). up)

-- a magnitude as a number with a sign, and its negation
pub cast_same : (n : ℕ) → n < 2 ^ 64 → to_z w128 n ≡ pos n
cast_same n h = omega (arith, ints)

pub cast_negated : (n : ℕ) → n < 2 ^ 64 → to_z w128 (of_z w128 (pos 0 -ℤ to_z w128 n)) ≡ neg_ℤ (pos n)
cast_negated n h = omega (arith, ints)
