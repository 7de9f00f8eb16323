-- What is kept by a comparison: each number that passes, and no more than there was.
use Rattle.std.proofs.Common.{◌≡◌, Bool, true, false, not, ℤ, pos, ◌+ℤ◌, ◌-ℤ◌, ◌≤ℤ◌, ◌<ℤ◌, Some, if◌then◌else◌, refl, sym, ap, subst, ◌∙◌, arith}
use Rattle.std.specs.Int.{int_max, int_min}
use Rattle.std.specs.Ordering.{int_eq}
use Rattle.std.proofs.lemmas.Int.{ints, clamps, by_lt_z}
use Rattle.std.proofs.lemmas.Bool.Decides.{Decides-int_eq}
use Rattle.cc_num.specs.declared.op.BinOp.{BinOp}
use Rattle.cc_num.specs.declared.op.BinOp.TheVariants as op
use Rattle.cc_lattice.specs.Domains.{is_comparison, passes}
use Rattle.cc_ranges.specs.Ends.{Ends, EndsHave, EndsBelow, between}
use Rattle.cc_ranges.specs.Keep.{without, keep_rule}
use Rattle.cc_ranges.specs.laws.Fits.{ends_itself, ends_through, between_some, between_none, between_has, between_below, between_inside}
use Rattle.cc_ranges.specs.laws.Products.{IsBetween}
use Rattle.cc_ranges.specs.laws.RuleHas.{eq_true}
use Rattle.cc_ranges.specs.laws.RuleGrows.{LieOut}

eq_tells : (v w : ℤ) → int_eq v w ≡ true → v ≡ w
eq_tells v w e = (Decides-int_eq v w).0 e

ne_tells : (v w : ℤ) → not (int_eq v w) ≡ true → v ≡ w → ⊥
ne_tells v w e h = let f : int_eq v w ≡ true = eq_true v w h in let g : not true ≡ true = sym (ap not f) ∙ e in cc

above : (v w : ℤ) → v ≤ℤ w → (v ≡ w → ⊥) → v <ℤ w
above v w h other = by_lt_z v w (λ less. less) (λ (k : w ≤ℤ v). absurd (other (omega (arith, ints))))

not_true : (v w : ℤ) → int_eq v w ≡ false → v ≡ w → ⊥
not_true v w e h = let f : int_eq v w ≡ true = eq_true v w h in let g : true ≡ false = sym f ∙ e in cc

-- a number that is not v stays where v is taken off an end
without_inner : (p q : Bool) (low high x v : ℤ) → int_eq low x ≡ p → int_eq high x ≡ q → IsBetween low high v → (v ≡ x → ⊥)
    → EndsHave (if p then between (low +ℤ pos 1) high else (if q then between low (high -ℤ pos 1) else Some (low, high))) v
without_inner true q low high x v e f a other =
    let r = a.low_end in let s = a.high_end in
    let same = eq_tells low x e in
    let more : low <ℤ v = above low v r (λ h. other (sym h ∙ same)) in
    between_has (low +ℤ pos 1) high v (omega (arith, ints)) s
without_inner false true low high x v e f a other =
    let r = a.low_end in let s = a.high_end in
    let same = eq_tells high x f in
    let less : v <ℤ high = above v high s (λ h. other (h ∙ same)) in
    between_has low (high -ℤ pos 1) v r (omega (arith, ints))
without_inner false false low high x v e f a other = (a.low_end, a.high_end)

without_below : (p q : Bool) (low high : ℤ) → EndsBelow (if p then between (low +ℤ pos 1) high else (if q then between low (high -ℤ pos 1) else Some (low, high))) (Some (low, high))
without_below true q low high = between_inside (low +ℤ pos 1) high low high (omega (arith, ints)) (omega (arith, ints))
without_below false true low high = between_inside low (high -ℤ pos 1) low high (omega (arith, ints)) (omega (arith, ints))
without_below false false low high = ends_itself (Some (low, high))

without_grows : (p q p' q' : Bool) (low high low' high' x : ℤ) → int_eq low x ≡ p → int_eq high x ≡ q → int_eq low' x ≡ p' → int_eq high' x ≡ q' → LieOut low high low' high'
    → EndsBelow (if p then between (low +ℤ pos 1) high else (if q then between low (high -ℤ pos 1) else Some (low, high)))
    (if p' then between (low' +ℤ pos 1) high' else (if q' then between low' (high' -ℤ pos 1) else Some (low', high')))
without_grows true q true q' low high low' high' x e f g h a =
    let r = a.low_out in let s = a.high_out in
    between_below (low +ℤ pos 1) high (low' +ℤ pos 1) high' (omega (arith, ints)) s
without_grows true q false true low high low' high' x e f g h a =
    let o = a.some in let r = a.low_out in let s = a.high_out in
    let same = eq_tells low x e in
    let same' = eq_tells high' x h in
    let none : high <ℤ (low +ℤ pos 1) = omega (arith, ints) in
    subst (λ (y : Ends). EndsBelow y (between low' (high' -ℤ pos 1))) (sym (between_none (low +ℤ pos 1) high none)) tt
without_grows true q false false low high low' high' x e f g h a =
    let r = a.low_out in let s = a.high_out in
    between_inside (low +ℤ pos 1) high low' high' (omega (arith, ints)) s
without_grows false true true q' low high low' high' x e f g h a =
    let o = a.some in let r = a.low_out in
    let same = eq_tells high x f in
    let same' = eq_tells low' x g in
    let n : int_eq low x ≡ true = eq_true low x (omega (arith, ints)) in
    cc
without_grows false true false true low high low' high' x e f g h a =
    let r = a.low_out in let s = a.high_out in
    between_below low (high -ℤ pos 1) low' (high' -ℤ pos 1) r (omega (arith, ints))
without_grows false true false false low high low' high' x e f g h a =
    let r = a.low_out in let s = a.high_out in
    between_inside low (high -ℤ pos 1) low' high' r (omega (arith, ints))
without_grows false false true q' low high low' high' x e f g h a =
    let o = a.some in let r = a.low_out in let s = a.high_out in
    let same' = eq_tells low' x g in
    let more : x <ℤ low = above x low (omega (arith, ints)) (λ k. not_true low x e (sym k)) in
    subst (λ (y : Ends). EndsBelow (Some (low, high)) y) (sym (between_some (low' +ℤ pos 1) high' (omega (arith, ints)))) (omega (arith, ints), s)
without_grows false false false true low high low' high' x e f g h a =
    let o = a.some in let r = a.low_out in let s = a.high_out in
    let same' = eq_tells high' x h in
    let less : high <ℤ x = above high x (omega (arith, ints)) (λ k. not_true high x f k) in
    subst (λ (y : Ends). EndsBelow (Some (low, high)) y) (sym (between_some low' (high' -ℤ pos 1) (omega (arith, ints)))) (r, omega (arith, ints))
without_grows false false false false low high low' high' x e f g h a = (a.low_out, a.high_out)

ne_has_by : (p : Bool) (low high lb hb v w : ℤ) → int_eq lb hb ≡ p → IsBetween low high v → IsBetween lb hb w → (v ≡ w → ⊥)
    → EndsHave (if p then without low high lb else Some (low, high)) v
ne_has_by true low high lb hb v w e a b other =
    let r = b.low_end in let s = b.high_end in
    let same = eq_tells lb hb e in
    let here : w ≡ lb = omega (arith, ints) in
    without_inner (int_eq low lb) (int_eq high lb) low high lb v refl refl a (λ h. other (h ∙ sym here))
ne_has_by false low high lb hb v w e a b other = (a.low_end, a.high_end)

ne_below_by : (p : Bool) (low high lb : ℤ) → EndsBelow (if p then without low high lb else Some (low, high)) (Some (low, high))
ne_below_by true low high lb = without_below (int_eq low lb) (int_eq high lb) low high
ne_below_by false low high lb = ends_itself (Some (low, high))

ne_grows_by : (p q : Bool) (low high lb hb low' high' ly hy : ℤ) → int_eq lb hb ≡ p → int_eq ly hy ≡ q → LieOut low high low' high' → LieOut lb hb ly hy
    → EndsBelow (if p then without low high lb else Some (low, high)) (if q then without low' high' ly else Some (low', high'))
ne_grows_by true true low high lb hb low' high' ly hy e f a b =
    let o = b.some in let r = b.low_out in let s = b.high_out in
    let same = eq_tells ly hy f in
    let here : ly ≡ lb = omega (arith, ints) in
    subst (λ (y : ℤ). EndsBelow (without low high lb) (without low' high' y)) (sym here)
    (without_grows (int_eq low lb) (int_eq high lb) (int_eq low' lb) (int_eq high' lb) low high low' high' lb refl refl refl refl a)
ne_grows_by true false low high lb hb low' high' ly hy e f a b =
    ends_through (without low high lb) (Some (low, high)) (Some (low', high')) (without_below (int_eq low lb) (int_eq high lb) low high) (a.low_out, a.high_out)
ne_grows_by false true low high lb hb low' high' ly hy e f a b =
    let o = b.some in let r = b.low_out in let s = b.high_out in
    let same = eq_tells ly hy f in
    absurd (not_true lb hb e (omega (arith, ints)))
ne_grows_by false false low high lb hb low' high' ly hy e f a b = (a.low_out, a.high_out)

pub keep_has : (test : BinOp) (low high lb hb v w : ℤ) → is_comparison test ≡ true → IsBetween low high v → IsBetween lb hb w → passes test v w ≡ true
    → EndsHave (keep_rule test low high lb hb) v
keep_has op.Lt low high lb hb v w c a b e =
    let p = a.low_end in let q = a.high_end in let s = b.high_end in
    let less : v <ℤ w = grind (arith, ints) in
    between_has low (int_min high (hb -ℤ pos 1)) v p (omega (arith, ints, clamps))
keep_has op.Le low high lb hb v w c a b e =
    let p = a.low_end in let q = a.high_end in let s = b.high_end in
    let less : v ≤ℤ w = grind (arith, ints) in
    between_has low (int_min high hb) v p (omega (arith, ints, clamps))
keep_has op.Gt low high lb hb v w c a b e =
    let p = a.low_end in let q = a.high_end in let r = b.low_end in
    let less : w <ℤ v = grind (arith, ints) in
    between_has (int_max low (lb +ℤ pos 1)) high v (omega (arith, ints, clamps)) q
keep_has op.Ge low high lb hb v w c a b e =
    let p = a.low_end in let q = a.high_end in let r = b.low_end in
    let less : w ≤ℤ v = grind (arith, ints) in
    between_has (int_max low lb) high v (omega (arith, ints, clamps)) q
keep_has op.Eq low high lb hb v w c a b e =
    let p = a.low_end in let q = a.high_end in let r = b.low_end in let s = b.high_end in
    let same = eq_tells v w e in
    between_has (int_max low lb) (int_min high hb) v (omega (arith, ints, clamps)) (omega (arith, ints, clamps))
keep_has op.Ne low high lb hb v w c a b e = ne_has_by (int_eq lb hb) low high lb hb v w refl a b (ne_tells v w e)
keep_has _ low high lb hb v w c a b e = cc

pub keep_below : (test : BinOp) (low high lb hb : ℤ) → is_comparison test ≡ true → EndsBelow (keep_rule test low high lb hb) (Some (low, high))
keep_below op.Lt low high lb hb c = between_inside low (int_min high (hb -ℤ pos 1)) low high (omega (arith, ints)) (omega (arith, ints, clamps))
keep_below op.Le low high lb hb c = between_inside low (int_min high hb) low high (omega (arith, ints)) (omega (arith, ints, clamps))
keep_below op.Gt low high lb hb c = between_inside (int_max low (lb +ℤ pos 1)) high low high (omega (arith, ints, clamps)) (omega (arith, ints))
keep_below op.Ge low high lb hb c = between_inside (int_max low lb) high low high (omega (arith, ints, clamps)) (omega (arith, ints))
keep_below op.Eq low high lb hb c = between_inside (int_max low lb) (int_min high hb) low high (omega (arith, ints, clamps)) (omega (arith, ints, clamps))
keep_below op.Ne low high lb hb c = ne_below_by (int_eq lb hb) low high lb
keep_below _ low high lb hb c = cc

pub keep_grows : (test : BinOp) (low high lb hb low' high' ly hy : ℤ) → is_comparison test ≡ true → LieOut low high low' high' → LieOut lb hb ly hy
    → EndsBelow (keep_rule test low high lb hb) (keep_rule test low' high' ly hy)
keep_grows op.Lt low high lb hb low' high' ly hy c a b =
    let p = a.low_out in let q = a.high_out in let s = b.high_out in
    between_below low (int_min high (hb -ℤ pos 1)) low' (int_min high' (hy -ℤ pos 1)) p (omega (arith, ints, clamps))
keep_grows op.Le low high lb hb low' high' ly hy c a b =
    let p = a.low_out in let q = a.high_out in let s = b.high_out in
    between_below low (int_min high hb) low' (int_min high' hy) p (omega (arith, ints, clamps))
keep_grows op.Gt low high lb hb low' high' ly hy c a b =
    let p = a.low_out in let q = a.high_out in let r = b.low_out in
    between_below (int_max low (lb +ℤ pos 1)) high (int_max low' (ly +ℤ pos 1)) high' (omega (arith, ints, clamps)) q
keep_grows op.Ge low high lb hb low' high' ly hy c a b =
    let p = a.low_out in let q = a.high_out in let r = b.low_out in
    between_below (int_max low lb) high (int_max low' ly) high' (omega (arith, ints, clamps)) q
keep_grows op.Eq low high lb hb low' high' ly hy c a b =
    let p = a.low_out in let q = a.high_out in let r = b.low_out in let s = b.high_out in
    between_below (int_max low lb) (int_min high hb) (int_max low' ly) (int_min high' hy) (omega (arith, ints, clamps)) (omega (arith, ints, clamps))
keep_grows op.Ne low high lb hb low' high' ly hy c a b = ne_grows_by (int_eq lb hb) (int_eq ly hy) low high lb hb low' high' ly hy refl refl a b
keep_grows _ low high lb hb low' high' ly hy c a b = cc
