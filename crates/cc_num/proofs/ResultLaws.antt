-- The rule for an exact result, by its two cases, and the laws of results: each that there is is a
-- value of the type.
use Rattle.std.proofs.Common.{◌≡◌, ◌≢◌, ℕ, zero, suc, ◌-◌, ◌^◌, ◌≤◌, Bool, true, false, ℤ, pos, negsuc, neg_ℤ, ◌+ℤ◌, ◌-ℤ◌, ◌*ℤ◌, ◌≤ℤ◌, Option, Some, None, IfSome, option_map, unsigned_abs, int_div, int_rem, if◌then◌else◌, refl, sym, ap, subst, ◌∙◌, arith, div-le_self, pow_mono, not, int_lt, int_le, bit_and, bit_or, bit_xor, option_and_then, ◌↔◌, IsTrue, ◌&&◌}
use Rattle.std.specs.Int.Signed.{≤ℤ_refl}
use Rattle.std.proofs.Math.Nat.{mod-le}
use Rattle.std.specs.Ordering.{int_eq}
use Rattle.std.proofs.lemmas.Int.{ints, quot-rem}
use Rattle.cc_num.specs.declared.int_type.IntType.{IntType}
use Rattle.cc_num.specs.declared.int_type.IntType.TheVariants as int
use Rattle.cc_num.specs.declared.target.Target.{Target}
use Rattle.cc_num.specs.declared.op.BinOp.{BinOp}
use Rattle.cc_num.specs.declared.op.BinOp.TheVariants as op
use Rattle.cc_num.specs.declared.op.UnOp.{UnOp}
use Rattle.cc_num.specs.declared.op.UnOp.TheVariants as unary
use Rattle.cc_num.specs.Integers.{bits_of, is_signed, least_of, most_of, least_of_bits, most_of_bits, IsValueOf, is_value_of, represents_all, converted}
use Rattle.cc_num.specs.Results.{represented, quotient_of, remainder_of, left_of, floor_of, places_of, pattern_of, bitwise_of, one_if, result_of, unary_result_of, is_shift}
use Rattle.cc_num.proofs.Conversions.{some_bytes, least_is, converted-same, converted-IsValueOf}

pub represented_unsigned : (z : ℤ) (t : IntType) (target : Target) → is_signed t target ≡ false → represented z t target ≡ Some (converted z t target)
unfolding represented
represented_unsigned z t target s = ap (λ b. if b then (if is_value_of t target z then Some z else None) else Some (converted z t target)) s

pub represented_signed : (z : ℤ) (t : IntType) (target : Target) → is_signed t target ≡ true → represented z t target ≡ (if is_value_of t target z then Some z else None)
unfolding represented
represented_signed z t target s = ap (λ b. if b then (if is_value_of t target z then Some z else None) else Some (converted z t target)) s

pub quotient_is : (a b : ℤ) (t : IntType) (target : Target) → b ≢ pos 0 → quotient_of a b t target ≡ represented (int_div a b) t target
quotient_is a (pos zero) t target h = absurd (h refl)
quotient_is a (pos (suc b)) t target h = refl
quotient_is a (negsuc b) t target h = refl

-- a test of a value, and what it tells
pub is_value_from : (t : IntType) (target : Target) (v : ℤ) → IsValueOf t target v → is_value_of t target v ≡ true
is_value_from t target v h = let l = h.least in let m = h.most in grind (arith, ints)

pub value_from_test : (t : IntType) (target : Target) (v : ℤ) → is_value_of t target v ≡ true → IsValueOf t target v
value_from_test t target v h = record { least = grind (arith, ints); most = grind (arith, ints) }

-- an exact result that is a value of the type is the result
represented_by : (s : Bool) (z : ℤ) (t : IntType) (target : Target) → is_signed t target ≡ s → IsValueOf t target z → represented z t target ≡ Some z
represented_by true z t target s h = represented_signed z t target s ∙ ap (λ b. if b then Some z else None) (is_value_from t target z h)
represented_by false z t target s h = represented_unsigned z t target s ∙ ap Some (converted-same t target z h)

pub represented_same : (z : ℤ) (t : IntType) (target : Target) → IsValueOf t target z → represented z t target ≡ Some z
represented_same z t target h = represented_by (is_signed t target) z t target refl h

-- each result that there is is a value of the type
lands_by_test : (b : Bool) (z : ℤ) (t : IntType) (target : Target) → is_value_of t target z ≡ b → IfSome (if b then Some z else None) (IsValueOf t target)
lands_by_test true z t target e = value_from_test t target z e
lands_by_test false z t target e = tt

lands_by_sign : (s : Bool) (z : ℤ) (t : IntType) (target : Target) → is_signed t target ≡ s → IfSome (represented z t target) (IsValueOf t target)
lands_by_sign true z t target s = subst (λ (r : Option ℤ). IfSome r (IsValueOf t target)) (sym (represented_signed z t target s)) (lands_by_test (is_value_of t target z) z t target refl)
lands_by_sign false z t target s = subst (λ (r : Option ℤ). IfSome r (IsValueOf t target)) (sym (represented_unsigned z t target s)) (converted-IsValueOf z t target)

pub represented_lands : (z : ℤ) (t : IntType) (target : Target) → IfSome (represented z t target) (IsValueOf t target)
represented_lands z t target = lands_by_sign (is_signed t target) z t target refl

-- of a signed type, and of a quotient of values, it is the exact one
exact_by_test : (b : Bool) (z q : ℤ) → (if b then Some z else None) ≡ Some q → q ≡ z
exact_by_test true z q e = cc
exact_by_test false z q e = cc

pub unsigned_least : (t : IntType) (target : Target) → is_signed t target ≡ false → least_of t target ≡ pos 0
unsigned_least t target s = least_is t target ∙ ap (λ b. least_of_bits b (bits_of t target)) s

unsigned_quotient : (a b : ℤ) (t : IntType) (target : Target) → is_signed t target ≡ false → IsValueOf t target a → IsValueOf t target b → IsValueOf t target (int_div a b)
unsigned_quotient (pos a) (pos b) t target s p q =
    let l = unsigned_least t target s in
    let m = p.most in
    let d = div-le_self a b in
    record { least = omega (arith, ints); most = omega (arith, ints) }
unsigned_quotient (pos a) (negsuc b) t target s p q = let l = unsigned_least t target s in let m = q.least in absurd (omega (arith, ints))
unsigned_quotient (negsuc a) b t target s p q = let l = unsigned_least t target s in let m = p.least in absurd (omega (arith, ints))

pub quotient_by_sign : (s : Bool) (a b q : ℤ) (t : IntType) (target : Target) → is_signed t target ≡ s → IsValueOf t target a → IsValueOf t target b → represented (int_div a b) t target ≡ Some q → q ≡ int_div a b
quotient_by_sign true a b q t target s h k e = exact_by_test (is_value_of t target (int_div a b)) (int_div a b) q (sym (represented_signed (int_div a b) t target s) ∙ e)
quotient_by_sign false a b q t target s h k e = let r = represented_same (int_div a b) t target (unsigned_quotient a b t target s h k) in cc

-- so the remainder is the one of that sign
pub remainder_none : (a b : ℤ) (t : IntType) (target : Target) → quotient_of a b t target ≡ None → remainder_of a b t target ≡ None
remainder_none a b t target e = ap (option_map (λ q. a -ℤ q *ℤ b)) e

left_over : (p r a : ℤ) → p +ℤ r ≡ a → a -ℤ p ≡ r
left_over p r a e = omega (arith, ints)

pub remainder_some : (a b q : ℤ) (t : IntType) (target : Target) → b ≢ pos 0 → IsValueOf t target a → IsValueOf t target b → quotient_of a b t target ≡ Some q → remainder_of a b t target ≡ Some (int_rem a b)
remainder_some a b q t target some h k e =
    let exact = quotient_by_sign (is_signed t target) a b q t target refl h k (sym (quotient_is a b t target some) ∙ e) in
    ap (option_map (λ q. a -ℤ q *ℤ b)) e
    ∙ ap (λ x. Some (a -ℤ x *ℤ b)) exact
    ∙ ap Some (left_over (int_div a b *ℤ b) (int_rem a b) a (quot-rem a b))

-- each type has 0 and 1
bits_least : (s : Bool) (w : ℕ) → least_of_bits s w ≤ℤ pos 0
bits_least true w = omega (arith, ints)
bits_least false w = omega (arith, ints)

bits_most : (s : Bool) (w : ℕ) → 8 ≤ w → pos 1 ≤ℤ most_of_bits s w
bits_most true w h = let some : 1 ≤ w - 1 = omega arith in let p = pow_mono some in omega (arith, ints)
bits_most false w h = let some : 1 ≤ w = omega arith in let p = pow_mono some in omega (arith, ints)

pub least_low : (t : IntType) (target : Target) → least_of t target ≤ℤ pos 0
least_low int.Bool target = omega (arith, ints)
least_low t target = bits_least (is_signed t target) (bits_of t target)

pub most_high : (t : IntType) (target : Target) → pos 1 ≤ℤ most_of t target
most_high int.Bool target = omega (arith, ints)
most_high t target = let h = some_bytes t target in bits_most (is_signed t target) (bits_of t target) (omega arith)

pub truth_value : (b : Bool) (t : IntType) (target : Target) → IsValueOf t target (one_if b)
truth_value true t target = let l = least_low t target in let m = most_high t target in record { least = omega (arith, ints); most = m }
truth_value false t target = let l = least_low t target in let m = most_high t target in record { least = l; most = omega (arith, ints) }

-- a remainder lies between 0 and what is divided
remainder_value : (a b : ℤ) (t : IntType) (target : Target) → IsValueOf t target a → IsValueOf t target (int_rem a b)
remainder_value (pos a) b t target h =
    let l = least_low t target in
    let m = h.most in
    let r = mod-le a (unsigned_abs b) in
    record { least = omega (arith, ints); most = omega (arith, ints) }
remainder_value (negsuc a) b t target h =
    let l = h.least in
    let m = most_high t target in
    let r = mod-le (suc a) (unsigned_abs b) in
    record { least = omega (arith, ints); most = omega (arith, ints) }

-- a floor lies between what is divided and 0, or -1
floor_value : (a : ℤ) (n : ℕ) (t : IntType) (target : Target) → IsValueOf t target a → IsValueOf t target (floor_of a n)
floor_value (pos a) n t target h =
    let l = least_low t target in
    let m = h.most in
    let r = div-le_self a (2 ^ n) in
    record { least = omega (arith, ints); most = omega (arith, ints) }
floor_value (negsuc a) n t target h =
    let l = h.least in
    let m = most_high t target in
    let r = div-le_self a (2 ^ n) in
    record { least = omega (arith, ints); most = omega (arith, ints) }

-- what an operator gives
quotient_lands : (a b : ℤ) (t : IntType) (target : Target) → IfSome (quotient_of a b t target) (IsValueOf t target)
quotient_lands a (pos zero) t target = tt
quotient_lands a (pos (suc b)) t target = represented_lands (int_div a (pos (suc b))) t target
quotient_lands a (negsuc b) t target = represented_lands (int_div a (negsuc b)) t target

remainder_by_quotient : (r : Option ℤ) (a b : ℤ) (t : IntType) (target : Target) → quotient_of a b t target ≡ r → b ≢ pos 0 → IsValueOf t target a → IsValueOf t target b → IfSome (remainder_of a b t target) (IsValueOf t target)
remainder_by_quotient None a b t target e some h k = subst (λ (x : Option ℤ). IfSome x (IsValueOf t target)) (sym (remainder_none a b t target e)) tt
remainder_by_quotient (Some q) a b t target e some h k = subst (λ (x : Option ℤ). IfSome x (IsValueOf t target)) (sym (remainder_some a b q t target some h k e)) (remainder_value a b t target h)

remainder_lands : (a b : ℤ) (t : IntType) (target : Target) → IsValueOf t target a → IsValueOf t target b → IfSome (remainder_of a b t target) (IsValueOf t target)
remainder_lands a (pos zero) t target h k = tt
remainder_lands a (pos (suc b)) t target h k = remainder_by_quotient (quotient_of a (pos (suc b)) t target) a (pos (suc b)) t target refl (λ e. cc) h k
remainder_lands a (negsuc b) t target h k = remainder_by_quotient (quotient_of a (negsuc b) t target) a (negsuc b) t target refl (λ e. cc) h k

left_lands : (a : ℤ) (n : ℕ) (t : IntType) (target : Target) → IfSome (left_of a t target n) (IsValueOf t target)
left_lands (pos a) n t target = represented_lands (pos a *ℤ pos (2 ^ n)) t target
left_lands (negsuc a) n t target = tt

shl_lands : (n : Option ℕ) (a : ℤ) (t : IntType) (target : Target) → IfSome (option_and_then (left_of a t target) n) (IsValueOf t target)
shl_lands None a t target = tt
shl_lands (Some n) a t target = left_lands a n t target

shr_lands : (n : Option ℕ) (a : ℤ) (t : IntType) (target : Target) → IsValueOf t target a → IfSome (option_map (floor_of a) n) (IsValueOf t target)
shr_lands None a t target h = tt
shr_lands (Some n) a t target h = floor_value a n t target h

bitwise_lands : (f : ℕ → ℕ → ℕ) (a b : ℤ) (t : IntType) (target : Target) → IsValueOf t target (bitwise_of f a b t target)
bitwise_lands f a b t target = converted-IsValueOf (pos (f (pattern_of (bits_of t target) a) (pattern_of (bits_of t target) b))) t target

pub result_lands : (o : BinOp) (a b : ℤ) (t : IntType) (target : Target) → IsValueOf t target a → (is_shift o ≡ false → IsValueOf t target b) → IfSome (result_of o a b t target) (IsValueOf t target)
unfolding result_of
result_lands op.Add a b t target h k = represented_lands (a +ℤ b) t target
result_lands op.Sub a b t target h k = represented_lands (a -ℤ b) t target
result_lands op.Mul a b t target h k = represented_lands (a *ℤ b) t target
result_lands op.Div a b t target h k = quotient_lands a b t target
result_lands op.Rem a b t target h k = remainder_lands a b t target h (k refl)
result_lands op.And a b t target h k = bitwise_lands bit_and a b t target
result_lands op.Or a b t target h k = bitwise_lands bit_or a b t target
result_lands op.Xor a b t target h k = bitwise_lands bit_xor a b t target
result_lands op.Shl a b t target h k = shl_lands (places_of b (bits_of t target)) a t target
result_lands op.Shr a b t target h k = shr_lands (places_of b (bits_of t target)) a t target h
result_lands op.Lt a b t target h k = truth_value (int_lt a b) t target
result_lands op.Le a b t target h k = truth_value (int_le a b) t target
result_lands op.Gt a b t target h k = truth_value (int_lt b a) t target
result_lands op.Ge a b t target h k = truth_value (int_le b a) t target
result_lands op.Eq a b t target h k = truth_value (int_eq a b) t target
result_lands op.Ne a b t target h k = truth_value (not (int_eq a b)) t target

pub unary_result_lands : (o : UnOp) (a : ℤ) (t : IntType) (target : Target) → IfSome (unary_result_of o a t target) (IsValueOf t target)
unfolding unary_result_of
unary_result_lands unary.Neg a t target = represented_lands (neg_ℤ a) t target
unary_result_lands unary.Not a t target = converted-IsValueOf (neg_ℤ a -ℤ pos 1) t target
unary_result_lands unary.Lnot a t target = truth_value (int_eq a (pos 0)) t target

-- what the tests of a range say
pub value_test : (v : ℤ) (t : IntType) (target : Target) → IsTrue (is_value_of t target v) ↔ IsValueOf t target v
value_test v t target = ((λ e. value_from_test t target v e), (λ h. is_value_from t target v h))

least_value : (t : IntType) (target : Target) → IsValueOf t target (least_of t target)
least_value t target = let l = least_low t target in let m = most_high t target in record { least = ≤ℤ_refl (least_of t target); most = omega (arith, ints) }

most_value : (t : IntType) (target : Target) → IsValueOf t target (most_of t target)
most_value t target = let l = least_low t target in let m = most_high t target in record { least = omega (arith, ints); most = ≤ℤ_refl (most_of t target) }

wider : (t s : IntType) (target : Target) → represents_all t s target ≡ true → (v : ℤ) → IsValueOf s target v → IsValueOf t target v
wider t s target e v h =
    let l = h.least in
    let m = h.most in
    record { least = grind (arith, ints); most = grind (arith, ints) }

covers_ends : (a b c d : ℤ) → a ≤ℤ b → c ≤ℤ d → (int_le a b && int_le c d) ≡ true
covers_ends a b c d h k = grind (arith, ints)

pub represents_test : (s t : IntType) (target : Target) → IsTrue (represents_all t s target) ↔ ((v : ℤ) → IsValueOf s target v → IsValueOf t target v)
represents_test s t target = (
  wider t s target,
  λ all. covers_ends (least_of t target) (least_of s target) (most_of s target) (most_of t target)
      (all (least_of s target) (least_value s target)).least (all (most_of s target) (most_value s target)).most,
)
