-- The values of all integer types lie from -2^63 on below 2^64, since a type has at most 64 bits.
use Rattle.std.proofs.Common.{◌≡◌, ◌⊎◌, ℕ, ◌-◌, ◌^◌, ◌≤◌, Bool, true, false, ℤ, pos, negsuc, neg_ℤ, ◌≤ℤ◌, ◌<ℤ◌, Some, refl, sym, subst, inl, inr, arith}
use Rattle.std.proofs.Math.Pow.{pow_mono}
use Rattle.std.proofs.lemmas.Int.{ints}
use Rattle.cc_num.specs.declared.int_type.IntType.{IntType}
use Rattle.cc_num.specs.declared.int_type.IntType.TheVariants as int
use Rattle.cc_num.specs.declared.target.Target.{Target}
use Rattle.cc_num.specs.declared.op.BinOp.{BinOp}
use Rattle.cc_num.specs.declared.op.BinOp.TheVariants as op
use Rattle.cc_num.specs.Integers.{bits_of, is_signed, least_of, most_of, least_of_bits, most_of_bits, IsValueOf}
use Rattle.cc_num.specs.Results.{result_of, one_if}
use Rattle.cc_num.proofs.Conversions.{least_is, most_is, few_bytes}
use Rattle.cc_lattice.specs.Domains.{IsIntValue, is_comparison, passes}

least_bits : (s : Bool) (w : ℕ) → w ≤ 64 → neg_ℤ (pos (2 ^ 63)) ≤ℤ least_of_bits s w
least_bits true w h =
    let few : w - 1 ≤ 63 = omega arith in
    let p : 2 ^ (w - 1) ≤ 2 ^ 63 = pow_mono few in
    omega (arith, ints)
least_bits false w h = omega (arith, ints)

most_bits : (s : Bool) (w : ℕ) → w ≤ 64 → most_of_bits s w <ℤ pos (2 ^ 64)
most_bits true w h =
    let few : w - 1 ≤ 63 = omega arith in
    let p : 2 ^ (w - 1) ≤ 2 ^ 63 = pow_mono few in
    omega (arith, ints)
most_bits false w h =
    let p : 2 ^ w ≤ 2 ^ 64 = pow_mono h in
    omega (arith, ints)

few_bits : (t : IntType) (target : Target) → bits_of t target ≤ 64
few_bits t target = let h = few_bytes t target in omega arith

pub least_in : (t : IntType) (target : Target) → neg_ℤ (pos (2 ^ 63)) ≤ℤ least_of t target
least_in t target = subst (λ z. neg_ℤ (pos (2 ^ 63)) ≤ℤ z) (sym (least_is t target)) (least_bits (is_signed t target) (bits_of t target) (few_bits t target))

most_other : (t : IntType) (target : Target) → (t ≡ int.Bool → ⊥) → most_of t target <ℤ pos (2 ^ 64)
most_other t target h = subst (λ z. z <ℤ pos (2 ^ 64)) (sym (most_is t target h)) (most_bits (is_signed t target) (bits_of t target) (few_bits t target))

pub most_in : (t : IntType) (target : Target) → most_of t target <ℤ pos (2 ^ 64)
most_in int.Bool target = omega (arith, ints)
most_in t target = most_other t target (λ e. cc)

pub value_is_int : (v : ℤ) (t : IntType) (target : Target) → IsValueOf t target v → IsIntValue v
value_is_int v t target h =
    let a = h.least in
    let b = h.most in
    let c = least_in t target in
    let d = most_in t target in
    record { least = omega (arith, ints); most = omega (arith, ints) }

pub int_is_value : (v : ℤ) (target : Target) → IsIntValue v → IsValueOf int.LongLong target v ⊎ IsValueOf int.ULongLong target v
int_is_value (pos n) target h =
    let b = h.most in
    inr (record { least = omega (arith, ints); most = omega (arith, ints) })
int_is_value (negsuc n) target h =
    let a = h.least in
    inl (record { least = omega (arith, ints); most = omega (arith, ints) })

pub passing : (test : BinOp) (v w : ℤ) (t : IntType) (target : Target) → is_comparison test ≡ true → result_of test v w t target ≡ Some (one_if (passes test v w))
unfolding result_of
passing op.Lt v w t target h = refl
passing op.Le v w t target h = refl
passing op.Gt v w t target h = refl
passing op.Ge v w t target h = refl
passing op.Eq v w t target h = refl
passing op.Ne v w t target h = refl
passing _ v w t target h = cc
