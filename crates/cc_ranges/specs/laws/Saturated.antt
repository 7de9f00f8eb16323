-- Products that are cut to 128 bits fit a type as the exact ones do: what leaves the 128 bits leaves every
-- type, and of a signed type no product does.
use Rattle.std.proofs.Common.{◌≡◌, ◌*◌, ◌^◌, ◌≤◌, Bool, true, false, ℤ, pos, negsuc, neg_ℤ, ◌*ℤ◌, ◌≤ℤ◌, ◌<ℤ◌, unsigned_abs, refl, sym, ap, ap₂, ◌∙◌, arith}
use Rattle.std.specs.Int.{int_max, int_min, saturate_to_bits}
use Rattle.std.proofs.lemmas.Int.{ints, clamps, by_lt_z, unsigned_abs-mul}
use Rattle.std.proofs.Math.Nat.{mul-le-mul_left, mul-le-mul_right}
use Rattle.cc_num.specs.declared.int_type.IntType.{IntType}
use Rattle.cc_num.specs.declared.target.Target.{Target}
use Rattle.cc_num.specs.Integers.{is_signed, least_of, most_of, IsValueOf}
use Rattle.cc_num.proofs.Exact.{signed_small}
use Rattle.cc_lattice.proofs.IntValues.{least_in, most_in}
use Rattle.cc_ranges.specs.Ends.{between, lies_in, fitted, LieIn}
use Rattle.cc_ranges.specs.Rules.{least_four, greatest_four}
use Rattle.cc_ranges.specs.laws.Fits.{fitted_signed, fitted_outside, lies_tells, lies_test}

abbrev pub cut_off : ℤ → ℤ
cut_off z = saturate_to_bits 127 z

low_cut : (least z : ℤ) → neg_ℤ (pos (2 ^ 63)) ≤ℤ least → z <ℤ pos (2 ^ 127) → int_max least (cut_off z) ≡ int_max least z
low_cut least (pos n) a h = ap (int_max least) (ap pos (omega (arith, ints)))
low_cut least (negsuc n) a h = omega (arith, ints, clamps)

high_cut : (most z : ℤ) → most <ℤ pos (2 ^ 64) → neg_ℤ (pos (2 ^ 127)) ≤ℤ z → int_min most (cut_off z) ≡ int_min most z
high_cut most (pos n) a h = omega (arith, ints, clamps)
high_cut most (negsuc n) a h = ap (int_min most) (ap negsuc (omega (arith, ints)))

same_cut : (z : ℤ) → neg_ℤ (pos (2 ^ 127)) ≤ℤ z → z <ℤ pos (2 ^ 127) → cut_off z ≡ z
same_cut (pos n) a b = ap pos (omega (arith, ints))
same_cut (negsuc n) a b = ap negsuc (omega (arith, ints))

low_back : (least z : ℤ) → neg_ℤ (pos (2 ^ 63)) ≤ℤ least → least ≤ℤ cut_off z → least ≤ℤ z
low_back least (pos n) a h = omega (arith, ints)
low_back least (negsuc n) a h = omega (arith, ints)

high_back : (most z : ℤ) → most <ℤ pos (2 ^ 64) → cut_off z ≤ℤ most → z ≤ℤ most
high_back most (pos n) a h = omega (arith, ints)
high_back most (negsuc n) a h = omega (arith, ints)

cut_signed : (low high : ℤ) (t : IntType) (target : Target) → is_signed t target ≡ true → low <ℤ pos (2 ^ 127) → neg_ℤ (pos (2 ^ 127)) ≤ℤ high
    → fitted (cut_off low) (cut_off high) t target ≡ fitted low high t target
cut_signed low high t target s h k =
    fitted_signed (cut_off low) (cut_off high) t target s
    ∙ (ap₂ between (low_cut (least_of t target) low (least_in t target) h) (high_cut (most_of t target) high (most_in t target) k)
    ∙ sym (fitted_signed low high t target s))

lies_back : (low high : ℤ) (t : IntType) (target : Target) → lies_in (cut_off low) (cut_off high) t target ≡ true → LieIn low high t target
lies_back low high t target e =
    let h = lies_tells (cut_off low) (cut_off high) t target e in
    record { first = low_back (least_of t target) low (least_in t target) h.first; last = high_back (most_of t target) high (most_in t target) h.last }

cut_unsigned : (p q : Bool) (low high : ℤ) (t : IntType) (target : Target) → is_signed t target ≡ false → low ≤ℤ high
    → lies_in low high t target ≡ p → lies_in (cut_off low) (cut_off high) t target ≡ q → fitted (cut_off low) (cut_off high) t target ≡ fitted low high t target
cut_unsigned true q low high t target s o e f =
    let h = lies_tells low high t target e in
    let a = h.first in let b = h.last in let c = least_in t target in let d = most_in t target in
    ap₂ (λ x y. fitted x y t target) (same_cut low (omega (arith, ints)) (omega (arith, ints))) (same_cut high (omega (arith, ints)) (omega (arith, ints)))
cut_unsigned false true low high t target s o e f = let n = lies_test low high t target (lies_back low high t target f) in cc
cut_unsigned false false low high t target s o e f = fitted_outside (cut_off low) (cut_off high) t target s f ∙ sym (fitted_outside low high t target s e)

cut_by : (s : Bool) (low high : ℤ) (t : IntType) (target : Target) → is_signed t target ≡ s → low ≤ℤ high → (is_signed t target ≡ true → (low <ℤ pos (2 ^ 127)) × (neg_ℤ (pos (2 ^ 127)) ≤ℤ high))
    → fitted (cut_off low) (cut_off high) t target ≡ fitted low high t target
cut_by true low high t target s o k = cut_signed low high t target s (k s).0 (k s).1
cut_by false low high t target s o k = cut_unsigned (lies_in low high t target) (lies_in (cut_off low) (cut_off high) t target) low high t target s o refl refl

-- the least and the greatest of numbers that are cut off
cut_grows : (x y : ℤ) → x ≤ℤ y → cut_off x ≤ℤ cut_off y
cut_grows (pos m) (pos n) h = omega (arith, ints)
cut_grows (pos m) (negsuc n) h = absurd (omega (arith, ints))
cut_grows (negsuc m) (pos n) h = omega (arith, ints)
cut_grows (negsuc m) (negsuc n) h = omega (arith, ints)

cut_min : (x y : ℤ) → int_min (cut_off x) (cut_off y) ≡ cut_off (int_min x y)
cut_min x y = by_lt_z y x
    (λ (h : y <ℤ x). let k = cut_grows y x (omega (arith, ints)) in let e : int_min x y ≡ y = omega (arith, ints, clamps) in rw e (omega (arith, ints, clamps)))
    (λ (h : x ≤ℤ y). let k = cut_grows x y h in let e : int_min x y ≡ x = omega (arith, ints, clamps) in rw e (omega (arith, ints, clamps)))

cut_max : (x y : ℤ) → int_max (cut_off x) (cut_off y) ≡ cut_off (int_max x y)
cut_max x y = by_lt_z y x
    (λ (h : y <ℤ x). let k = cut_grows y x (omega (arith, ints)) in let e : int_max x y ≡ x = omega (arith, ints, clamps) in rw e (omega (arith, ints, clamps)))
    (λ (h : x ≤ℤ y). let k = cut_grows x y h in let e : int_max x y ≡ y = omega (arith, ints, clamps) in rw e (omega (arith, ints, clamps)))

cut_least : (a b c d : ℤ) → least_four (cut_off a) (cut_off b) (cut_off c) (cut_off d) ≡ cut_off (least_four a b c d)
cut_least a b c d = ap₂ int_min (cut_min a b) (cut_min c d) ∙ cut_min (int_min a b) (int_min c d)

cut_greatest : (a b c d : ℤ) → greatest_four (cut_off a) (cut_off b) (cut_off c) (cut_off d) ≡ cut_off (greatest_four a b c d)
cut_greatest a b c d = ap₂ int_max (cut_max a b) (cut_max c d) ∙ cut_max (int_max a b) (int_max c d)

-- of a signed type no product leaves the 128 bits
signed_product : (a b : ℤ) → unsigned_abs a ≤ 2 ^ 63 → unsigned_abs b ≤ 2 ^ 63 → unsigned_abs (a *ℤ b) ≤ 2 ^ 126
signed_product a b h k =
    let e = unsigned_abs-mul a b in
    let p : unsigned_abs a * unsigned_abs b ≤ 2 ^ 63 * unsigned_abs b = mul-le-mul_right (unsigned_abs b) h in
    let q : 2 ^ 63 * unsigned_abs b ≤ 2 ^ 63 * 2 ^ 63 = mul-le-mul_left (2 ^ 63) k in
    omega arith

four_ends : (a b c d : ℤ) → unsigned_abs a ≤ 2 ^ 126 → (least_four a b c d <ℤ pos (2 ^ 127)) × (neg_ℤ (pos (2 ^ 127)) ≤ℤ greatest_four a b c d)
four_ends a b c d h = (omega (arith, ints, clamps), omega (arith, ints, clamps))

pub four_order : (a b c d : ℤ) → least_four a b c d ≤ℤ greatest_four a b c d
four_order a b c d = omega (arith, ints, clamps)

pub cut_products : (la ha lb hb : ℤ) (t : IntType) (target : Target) → IsValueOf t target la → IsValueOf t target lb
    → fitted (least_four (cut_off (la *ℤ lb)) (cut_off (la *ℤ hb)) (cut_off (ha *ℤ lb)) (cut_off (ha *ℤ hb)))
    (greatest_four (cut_off (la *ℤ lb)) (cut_off (la *ℤ hb)) (cut_off (ha *ℤ lb)) (cut_off (ha *ℤ hb))) t target
    ≡ fitted (least_four (la *ℤ lb) (la *ℤ hb) (ha *ℤ lb) (ha *ℤ hb)) (greatest_four (la *ℤ lb) (la *ℤ hb) (ha *ℤ lb) (ha *ℤ hb)) t target
cut_products la ha lb hb t target h k =
    ap₂ (λ x y. fitted x y t target) (cut_least (la *ℤ lb) (la *ℤ hb) (ha *ℤ lb) (ha *ℤ hb)) (cut_greatest (la *ℤ lb) (la *ℤ hb) (ha *ℤ lb) (ha *ℤ hb))
    ∙ cut_by (is_signed t target) (least_four (la *ℤ lb) (la *ℤ hb) (ha *ℤ lb) (ha *ℤ hb)) (greatest_four (la *ℤ lb) (la *ℤ hb) (ha *ℤ lb) (ha *ℤ hb)) t target refl
    (four_order (la *ℤ lb) (la *ℤ hb) (ha *ℤ lb) (ha *ℤ hb))
    (λ signed. four_ends (la *ℤ lb) (la *ℤ hb) (ha *ℤ lb) (ha *ℤ hb) (signed_product la lb (signed_small t target la signed h) (signed_small t target lb signed k)))
