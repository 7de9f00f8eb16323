-- Intervals: the order, tests of ends, and how exact results fit a type.
use Rattle.std.proofs.Common.{◌≡◌, Bool, true, false, ℤ, ◌≤ℤ◌, ◌<ℤ◌, int_le, int_lt, Some, None, if◌then◌else◌, refl, sym, ap, subst, ◌∙◌, arith}
use Rattle.std.specs.Int.{int_max, int_min}
use Rattle.std.specs.Int.Signed.{≤ℤ_refl}
use Rattle.std.proofs.lemmas.Int.{ints, clamps, by_lt_z}
use Rattle.cc_num.specs.declared.int_type.IntType.{IntType}
use Rattle.cc_num.specs.declared.target.Target.{Target}
use Rattle.cc_num.specs.Integers.{is_signed, least_of, most_of, IsValueOf, is_value_of, converted}
use Rattle.cc_num.specs.Results.{represented}
use Rattle.cc_num.proofs.Conversions.{converted-same, converted-IsValueOf}
use Rattle.cc_num.proofs.ResultLaws.{represented_signed, represented_unsigned, value_from_test}
use Rattle.cc_ranges.specs.Ends.{Ends, EndsHave, EndsBelow, between, cut, whole_ends, lies_in, fitted, LieIn}

-- the order of intervals

pub ends_itself : (x : Ends) → EndsBelow x x
ends_itself None = tt
ends_itself (Some (low, high)) = (≤ℤ_refl low, ≤ℤ_refl high)

pub ends_through : (x y z : Ends) → EndsBelow x y → EndsBelow y z → EndsBelow x z
ends_through None y z h k = tt
ends_through (Some (a, b)) None z h k = absurd h
ends_through (Some (a, b)) (Some (c, d)) None h k = absurd k
ends_through (Some (a, b)) (Some (c, d)) (Some (e, f)) h k =
    let h0 = h.0 in let h1 = h.1 in let k0 = k.0 in let k1 = k.1 in
    (omega (arith, ints), omega (arith, ints))

pub below_has : (x y : Ends) (v : ℤ) → EndsBelow x y → EndsHave x v → EndsHave y v
below_has None y v h k = absurd k
below_has (Some (a, b)) None v h k = absurd h
below_has (Some (a, b)) (Some (c, d)) v h k =
    let h0 = h.0 in let h1 = h.1 in let k0 = k.0 in let k1 = k.1 in
    (omega (arith, ints), omega (arith, ints))

-- tests of order

pub le_true : (a b : ℤ) → a ≤ℤ b → int_le a b ≡ true
le_true a b h = grind (arith, ints)

pub le_false : (a b : ℤ) → b <ℤ a → int_le a b ≡ false
le_false a b h = grind (arith, ints)

pub lt_true : (a b : ℤ) → a <ℤ b → int_lt a b ≡ true
lt_true a b h = grind (arith, ints)

pub lt_false : (a b : ℤ) → b ≤ℤ a → int_lt a b ≡ false
lt_false a b h = grind (arith, ints)

pub between_some : (low high : ℤ) → low ≤ℤ high → between low high ≡ Some (low, high)
between_some low high h = ap (λ b. if b then Some (low, high) else None) (le_true low high h)

pub between_none : (low high : ℤ) → high <ℤ low → between low high ≡ None
between_none low high h = ap (λ b. if b then Some (low, high) else None) (le_false low high h)

pub between_has : (low high v : ℤ) → low ≤ℤ v → v ≤ℤ high → EndsHave (between low high) v
between_has low high v h k =
    subst (λ (x : Ends). EndsHave x v) (sym (between_some low high (omega (arith, ints)))) (h, k)

pub between_below : (a b c d : ℤ) → c ≤ℤ a → b ≤ℤ d → EndsBelow (between a b) (between c d)
between_below a b c d h k = by_lt_z b a
    (λ (none : b <ℤ a). subst (λ (x : Ends). EndsBelow x (between c d)) (sym (between_none a b none)) tt)
    (λ (some : a ≤ℤ b). subst (λ (x : Ends). EndsBelow x (between c d)) (sym (between_some a b some))
    (subst (λ (x : Ends). EndsBelow (Some (a, b)) x) (sym (between_some c d (omega (arith, ints)))) (h, k)))

-- exact results in a type

pub fitted_signed : (low high : ℤ) (t : IntType) (target : Target) → is_signed t target ≡ true → fitted low high t target ≡ cut low high t target
fitted_signed low high t target s = ap (λ b. if b then cut low high t target else (if lies_in low high t target then Some (low, high) else whole_ends t target)) s

pub fitted_inside : (low high : ℤ) (t : IntType) (target : Target) → is_signed t target ≡ false → lies_in low high t target ≡ true → fitted low high t target ≡ Some (low, high)
fitted_inside low high t target s e =
    ap (λ b. if b then cut low high t target else (if lies_in low high t target then Some (low, high) else whole_ends t target)) s
    ∙ ap (λ b. if b then Some (low, high) else whole_ends t target) e

pub fitted_outside : (low high : ℤ) (t : IntType) (target : Target) → is_signed t target ≡ false → lies_in low high t target ≡ false → fitted low high t target ≡ whole_ends t target
fitted_outside low high t target s e =
    ap (λ b. if b then cut low high t target else (if lies_in low high t target then Some (low, high) else whole_ends t target)) s
    ∙ ap (λ b. if b then Some (low, high) else whole_ends t target) e

pub lies_tells : (low high : ℤ) (t : IntType) (target : Target) → lies_in low high t target ≡ true → LieIn low high t target
lies_tells low high t target e = record { first = grind (arith, ints); last = grind (arith, ints) }

pub lies_test : (low high : ℤ) (t : IntType) (target : Target) → LieIn low high t target → lies_in low high t target ≡ true
lies_test low high t target h = let a = h.first in let b = h.last in grind (arith, ints)

-- a result that does not trap is one of them

has_signed : (b : Bool) (low high v z : ℤ) (t : IntType) (target : Target) → low ≤ℤ v → v ≤ℤ high → is_value_of t target v ≡ b
    → (if b then Some v else None) ≡ Some z → EndsHave (cut low high t target) z
has_signed true low high v z t target l h e f =
    let value = value_from_test t target v e in
    let a = value.least in
    let b = value.most in
    let same : v ≡ z = cc in
    subst (λ (x : ℤ). EndsHave (cut low high t target) x) same
    (between_has (int_max (least_of t target) low) (int_min (most_of t target) high) v (omega (arith, ints, clamps)) (omega (arith, ints, clamps)))
has_signed false low high v z t target l h e f = let n : None ≡ Some z = f in cc

has_unsigned : (b : Bool) (low high v : ℤ) (t : IntType) (target : Target) → is_signed t target ≡ false → low ≤ℤ v → v ≤ℤ high
    → lies_in low high t target ≡ b → EndsHave (fitted low high t target) (converted v t target)
has_unsigned true low high v t target s l h e =
    let inside = lies_tells low high t target e in
    let a = inside.first in
    let b = inside.last in
    let value : IsValueOf t target v = record { least = omega (arith, ints); most = omega (arith, ints) } in
    subst (λ (x : Ends). EndsHave x (converted v t target)) (sym (fitted_inside low high t target s e))
    (subst (λ (x : ℤ). (low ≤ℤ x) × (x ≤ℤ high)) (sym (converted-same t target v value)) (l, h))
has_unsigned false low high v t target s l h e =
    let value = converted-IsValueOf v t target in
    subst (λ (x : Ends). EndsHave x (converted v t target)) (sym (fitted_outside low high t target s e)) (value.least, value.most)

has_by : (s : Bool) (low high v z : ℤ) (t : IntType) (target : Target) → is_signed t target ≡ s → low ≤ℤ v → v ≤ℤ high
    → represented v t target ≡ Some z → EndsHave (fitted low high t target) z
has_by true low high v z t target s l h e =
    subst (λ (x : Ends). EndsHave x z) (sym (fitted_signed low high t target s))
    (has_signed (is_value_of t target v) low high v z t target l h refl (sym (represented_signed v t target s) ∙ e))
has_by false low high v z t target s l h e =
    let r : Some (converted v t target) ≡ Some z = sym (represented_unsigned v t target s) ∙ e in
    let same : converted v t target ≡ z = cc in
    subst (λ (x : ℤ). EndsHave (fitted low high t target) x) same (has_unsigned (lies_in low high t target) low high v t target s l h refl)

pub fitted_has : (low high v z : ℤ) (t : IntType) (target : Target) → low ≤ℤ v → v ≤ℤ high → represented v t target ≡ Some z → EndsHave (fitted low high t target) z
fitted_has low high v z t target l h e = has_by (is_signed t target) low high v z t target refl l h e

-- more results fit to more

below_unsigned : (p q : Bool) (a b c d : ℤ) (t : IntType) (target : Target) → is_signed t target ≡ false → c ≤ℤ a → b ≤ℤ d
    → lies_in a b t target ≡ p → lies_in c d t target ≡ q → EndsBelow (fitted a b t target) (fitted c d t target)
below_unsigned true true a b c d t target s l h e f =
    subst (λ (x : Ends). EndsBelow x (fitted c d t target)) (sym (fitted_inside a b t target s e))
    (subst (λ (x : Ends). EndsBelow (Some (a, b)) x) (sym (fitted_inside c d t target s f)) (l, h))
below_unsigned true false a b c d t target s l h e f =
    let inside = lies_tells a b t target e in
    subst (λ (x : Ends). EndsBelow x (fitted c d t target)) (sym (fitted_inside a b t target s e))
    (subst (λ (x : Ends). EndsBelow (Some (a, b)) x) (sym (fitted_outside c d t target s f)) (inside.first, inside.last))
below_unsigned false true a b c d t target s l h e f =
    let inside = lies_tells c d t target f in
    let x = inside.first in
    let y = inside.last in
    let n : lies_in a b t target ≡ true = lies_test a b t target (record { first = omega (arith, ints); last = omega (arith, ints) }) in
    cc
below_unsigned false false a b c d t target s l h e f =
    subst (λ (x : Ends). EndsBelow x (fitted c d t target)) (sym (fitted_outside a b t target s e))
    (subst (λ (x : Ends). EndsBelow (whole_ends t target) x) (sym (fitted_outside c d t target s f)) (ends_itself (whole_ends t target)))

below_by : (s : Bool) (a b c d : ℤ) (t : IntType) (target : Target) → is_signed t target ≡ s → c ≤ℤ a → b ≤ℤ d → EndsBelow (fitted a b t target) (fitted c d t target)
below_by true a b c d t target s l h =
    subst (λ (x : Ends). EndsBelow x (fitted c d t target)) (sym (fitted_signed a b t target s))
    (subst (λ (x : Ends). EndsBelow (cut a b t target) x) (sym (fitted_signed c d t target s))
    (between_below (int_max (least_of t target) a) (int_min (most_of t target) b) (int_max (least_of t target) c) (int_min (most_of t target) d)
    (omega (arith, ints, clamps)) (omega (arith, ints, clamps))))
below_by false a b c d t target s l h = below_unsigned (lies_in a b t target) (lies_in c d t target) a b c d t target s l h refl refl

pub fitted_below : (a b c d : ℤ) (t : IntType) (target : Target) → c ≤ℤ a → b ≤ℤ d → EndsBelow (fitted a b t target) (fitted c d t target)
fitted_below a b c d t target l h = below_by (is_signed t target) a b c d t target refl l h

-- between two ends lies what lies further in
pub between_inside : (a b c d : ℤ) → c ≤ℤ a → b ≤ℤ d → EndsBelow (between a b) (Some (c, d))
between_inside a b c d h k = by_lt_z b a
    (λ (none : b <ℤ a). subst (λ (x : Ends). EndsBelow x (Some (c, d))) (sym (between_none a b none)) tt)
    (λ (some : a ≤ℤ b). subst (λ (x : Ends). EndsBelow x (Some (c, d))) (sym (between_some a b some)) (h, k))
