-- The products of ends, cut to 128 bits, fit a type as the exact ones do.
use Rattle.std.proofs.Common.{◌≡◌, ℤ, ◌*ℤ◌, ◌≤ℤ◌, FitsSigned, to_z, of_z, to_z-of_z, rules, ap₂, ◌∙◌, arith}
use Rattle.std.specs.Int.{w128, int_max, int_min}
use Rattle.std.proofs.lemmas.Int.{ints}
use Rattle.cc_num.specs.declared.int_type.IntType.{IntType}
use Rattle.cc_num.specs.declared.target.Target.{Target}
use Rattle.cc_num.specs.Integers.{IsValueOf}
use Rattle.cc_num.proofs.Exact.{IsNarrow}
use Rattle.cc_ranges.specs.Ends.{IsInterval, LieIn, fitted}
use Rattle.cc_ranges.specs.Rules.{least_four, greatest_four, mul_rule}
use Rattle.cc_ranges.specs.laws.Saturated.{cut_off, four_order, cut_products}
use Rattle.cc_ranges.proofs.Narrow.{low_narrow, high_narrow, narrow_same}
use Rattle.cc_ranges.proofs.rules.product.Goals as goal

low_value : (low high : ℤ) (t : IntType) (target : Target) → IsInterval low high → LieIn low high t target → IsValueOf t target low
low_value low high t target p h =
    let o = p.ordered in let first = h.first in let last = h.last in
    record { least = first; most = omega (arith, ints) }

-- what a number is once it is read back
abbrev back : ℤ → ℤ
back z = to_z w128 (of_z w128 z)

cut_product : (a b : ℤ) → IsNarrow a → IsNarrow b → cut_off (back a *ℤ back b) ≡ cut_off (a *ℤ b)
cut_product a b p q = ap₂ (λ x y. cut_off (x *ℤ y)) (narrow_same a p) (narrow_same b q)

two_least : (r x y : ℤ) → FitsSigned w128 x → FitsSigned w128 y → r ≡ int_min (back x) (back y) → r ≡ int_min x y
two_least r x y p q e = e ∙ ap₂ int_min (to_z-of_z p) (to_z-of_z q)

two_greatest : (r x y : ℤ) → FitsSigned w128 x → FitsSigned w128 y → r ≡ int_max (back x) (back y) → r ≡ int_max x y
two_greatest r x y p q e = e ∙ ap₂ int_max (to_z-of_z p) (to_z-of_z q)

back_order : (low high a b c d : ℤ) → FitsSigned w128 low → FitsSigned w128 high → low ≡ least_four a b c d → high ≡ greatest_four a b c d → back low ≤ℤ back high
back_order low high a b c d p q e f = rw (to_z-of_z p, to_z-of_z q, e, f) (four_order a b c d)

low_is : (c : goal.After-greater-high) → c.lesser-low.result ≡ least_four c.saturating_mul-first.result c.saturating_mul-second.result c.saturating_mul-third.result c.saturating_mul-fourth.result
low_is c =
    let f1 : FitsSigned w128 c.saturating_mul-first.result = search rules in
    let f2 : FitsSigned w128 c.saturating_mul-second.result = search rules in
    let f3 : FitsSigned w128 c.saturating_mul-third.result = search rules in
    let f4 : FitsSigned w128 c.saturating_mul-fourth.result = search rules in
    let g1 : FitsSigned w128 c.lesser.result = search rules in
    let g2 : FitsSigned w128 c.lesser-2.result = search rules in
    two_least _ _ _ g1 g2 c.lesser-low.ensures ∙ ap₂ int_min (two_least _ _ _ f1 f2 c.lesser.ensures) (two_least _ _ _ f3 f4 c.lesser-2.ensures)

high_is : (c : goal.After-greater-high) → c.greater-high.result ≡ greatest_four c.saturating_mul-first.result c.saturating_mul-second.result c.saturating_mul-third.result c.saturating_mul-fourth.result
high_is c =
    let f1 : FitsSigned w128 c.saturating_mul-first.result = search rules in
    let f2 : FitsSigned w128 c.saturating_mul-second.result = search rules in
    let f3 : FitsSigned w128 c.saturating_mul-third.result = search rules in
    let f4 : FitsSigned w128 c.saturating_mul-fourth.result = search rules in
    let g1 : FitsSigned w128 c.greater.result = search rules in
    let g2 : FitsSigned w128 c.greater-2.result = search rules in
    two_greatest _ _ _ g1 g2 c.greater-high.ensures ∙ ap₂ int_max (two_greatest _ _ _ f1 f2 c.greater.ensures) (two_greatest _ _ _ f3 f4 c.greater-2.ensures)

pub fitted-requires : goal.fitted-requires
fitted-requires c =
    let p : FitsSigned w128 c.lesser-low.result = search rules in
    let q : FitsSigned w128 c.greater-high.result = search rules in
    back_order _ _ c.saturating_mul-first.result c.saturating_mul-second.result c.saturating_mul-third.result c.saturating_mul-fourth.result p q (low_is c) (high_is c)

pub returns : goal.returns
unfolding mul_rule
returns c =
    let p : FitsSigned w128 c.lesser-low.result = search rules in
    let q : FitsSigned w128 c.greater-high.result = search rules in
    let t = c.args.t in
    let target = c.args.target.now in
    let a = c.args.a.now in
    let b = c.args.b.now in
    let al = low_narrow a.low a.high a.ends in
    let ah = high_narrow a.low a.high a.ends in
    let bl = low_narrow b.low b.high b.ends in
    let bh = high_narrow b.low b.high b.ends in
    let s1 = c.saturating_mul-first.ensures ∙ cut_product a.low b.low al bl in
    let s2 = c.saturating_mul-second.ensures ∙ cut_product a.low b.high al bh in
    let s3 = c.saturating_mul-third.ensures ∙ cut_product a.high b.low ah bl in
    let s4 = c.saturating_mul-fourth.ensures ∙ cut_product a.high b.high ah bh in
    let l = low_is c.before ∙ ap₂ int_min (ap₂ int_min s1 s2) (ap₂ int_min s3 s4) in
    let h = high_is c.before ∙ ap₂ int_max (ap₂ int_max s1 s2) (ap₂ int_max s3 s4) in
    c.fitted.ensures
    ∙ ap₂ (λ x y. fitted x y t target) (to_z-of_z p ∙ l) (to_z-of_z q ∙ h)
    ∙ cut_products a.low a.high b.low b.high t target (low_value a.low a.high t target a.ends c.requires.first) (low_value b.low b.high t target b.ends c.requires.second)
