-- Each rule gives more for more: from ends that lie further out come ends that lie further out.
use Rattle.std.proofs.Common.{◌≡◌, ℕ, suc, ◌-◌, ◌^◌, ◌≤◌, ◌<◌, min, Bool, true, false, ◌&&◌, ℤ, pos, negsuc, neg_ℤ, ◌+ℤ◌, ◌-ℤ◌, ◌*ℤ◌, ◌≤ℤ◌, ◌<ℤ◌, int_le, int_lt, unsigned_abs, Some, None, if◌then◌else◌, refl, sym, ap, subst, ⊎_elim, arith, pow_pos, pow_mono}
use Rattle.std.specs.Int.{int_max, int_min}
use Rattle.std.proofs.lemmas.Int.{ints, clamps, by_lt_z}
use Rattle.std.proofs.lemmas.Nat.{leading_length}
use Rattle.std.proofs.lemmas.Bool.{cases_lt}
use Rattle.std.proofs.Math.Nat.{two-pow-succ}
use lib.Count.{count_leading_zeros}
use Rattle.cc_num.specs.declared.int_type.IntType.{IntType}
use Rattle.cc_num.specs.declared.target.Target.{Target}
use Rattle.cc_num.specs.declared.op.BinOp.{BinOp}
use Rattle.cc_num.specs.declared.op.BinOp.TheVariants as op
use Rattle.cc_num.specs.Integers.{bits_of, most_of}
use Rattle.cc_num.specs.Results.{floor_of, is_shift}
use Rattle.cc_num.proofs.ResultLaws.{least_low}
use Rattle.cc_lattice.proofs.IntValues.{most_in}
use Rattle.cc_ranges.specs.Ends.{Ends, EndsBelow, fitted, whole_ends}
use Rattle.cc_ranges.specs.Rules.{magnitude, mul_rule, only_zero, div_rule, rem_rule, and_rule, width_of, or_rule, counts_of, shl_by, shl_rule, shr_by, shr_rule, verdict, lt_rule, le_rule, are_one, are_apart, eq_rule, ne_rule, rule_of}
use Rattle.cc_ranges.specs.laws.Fits.{ends_itself, le_true, lt_true, between_some, between_none, between_below, fitted_below}
use Rattle.cc_ranges.specs.laws.Products.{inner_products}
use Rattle.cc_ranges.specs.laws.RuleHas.{most_ones, wide, times_both, div_both}

-- verdicts of which the outer one knows no more
verdict_below : (p q p' q' : Bool) → (p' ≡ true → p ≡ true) → (q' ≡ true → q ≡ true) → (p ≡ true → q ≡ true → ⊥) → EndsBelow (verdict p q) (verdict p' q')
verdict_below true true p' q' holds fails both = absurd (both refl refl)
verdict_below true false true q' holds fails both = ends_itself (Some (pos 1, pos 1))
verdict_below true false false true holds fails both = let e : false ≡ true = fails refl in cc
verdict_below true false false false holds fails both = (omega (arith, ints), omega (arith, ints))
verdict_below false true true q' holds fails both = let e : false ≡ true = holds refl in cc
verdict_below false true false true holds fails both = ends_itself (Some (pos 0, pos 0))
verdict_below false true false false holds fails both = (omega (arith, ints), omega (arith, ints))
verdict_below false false true q' holds fails both = let e : false ≡ true = holds refl in cc
verdict_below false false false true holds fails both = let e : false ≡ true = fails refl in cc
verdict_below false false false false holds fails both = ends_itself (Some (pos 0, pos 1))

-- ends that lie further out
pub record LieOut (la ha lx hx : ℤ) : Type 0 where
  pub some : la ≤ℤ ha
  pub low_out : lx ≤ℤ la
  pub high_out : ha ≤ℤ hx

both_up : (p q : ℤ) → pos 0 ≤ℤ p → pos 0 ≤ℤ q → (int_le (pos 0) p && int_le (pos 0) q) ≡ true
both_up p q h k = grind (arith, ints)

only_zero_test : (low high : ℤ) → pos 0 ≤ℤ low → high ≤ℤ pos 0 → only_zero low high ≡ true
only_zero_test low high h k = grind (arith, ints)

-- how many bits tell a number: no more than tell a greater one
width_least : (n j : ℕ) → n < 2 ^ 128 → n < 2 ^ j → 128 - count_leading_zeros 128 n ≤ j
width_least n j h small =
    let l = leading_length 128 n h in
    let sum = l.1 in
    let above = l.3 in
    ⊎_elim
    (λ (less : j < l.0). let up : 2 ^ suc j ≤ 2 ^ l.0 = pow_mono less in let twice = two-pow-succ j in absurd (omega arith))
    (λ (done : l.0 ≤ j). omega arith)
    (cases_lt j l.0)

width_grows : (v w : ℤ) → pos 0 ≤ℤ v → v ≤ℤ w → w <ℤ pos (2 ^ 64) → width_of v ≤ width_of w
width_grows (pos v) (pos w) up h top =
    let b : w < 2 ^ 128 = omega (arith, ints) in
    let x = wide w b in
    width_least v (128 - count_leading_zeros 128 w) (omega (arith, ints)) (omega (arith, ints))
width_grows (pos v) (negsuc w) up h top = absurd (omega (arith, ints))
width_grows (negsuc v) w up h top = absurd (omega (arith, ints))

pub width_within : (v : ℤ) (t : IntType) (target : Target) → pos 0 ≤ℤ v → v ≤ℤ most_of t target → pos (2 ^ width_of v - 1) ≤ℤ most_of t target
width_within (negsuc v) t target up h = absurd (omega (arith, ints))
width_within (pos v) t target up h =
    let ones = most_ones t target in
    let e = ones.1 in
    let top = most_in t target in
    let p = pow_pos ones.0 in
    let small : v < 2 ^ ones.0 = omega (arith, ints) in
    let w = width_least v ones.0 (omega (arith, ints)) small in
    let pow : 2 ^ (128 - count_leading_zeros 128 v) ≤ 2 ^ ones.0 = pow_mono w in
    omega (arith, ints)

never_both : (p q r s : ℤ) → int_lt p q ≡ true → int_le r s ≡ true → s ≤ℤ p → q ≤ℤ r → ⊥
never_both p q r s e f h k = grind (arith, ints)

never_both_le : (p q r s : ℤ) → int_le p q ≡ true → int_lt r s ≡ true → s ≤ℤ p → q ≤ℤ r → ⊥
never_both_le p q r s e f h k = grind (arith, ints)

module _ (la ha lb hb lx hx ly hy : ℤ) (t : IntType) (target : Target) (a : LieOut la ha lx hx) (b : LieOut lb hb ly hy) where
  add_below : EndsBelow (fitted (la +ℤ lb) (ha +ℤ hb) t target) (fitted (lx +ℤ ly) (hx +ℤ hy) t target)
  add_below =
      let p = a.low_out in let q = a.high_out in let r = b.low_out in let s = b.high_out in
      fitted_below (la +ℤ lb) (ha +ℤ hb) (lx +ℤ ly) (hx +ℤ hy) t target (omega (arith, ints)) (omega (arith, ints))

  sub_below : EndsBelow (fitted (la -ℤ hb) (ha -ℤ lb) t target) (fitted (lx -ℤ hy) (hx -ℤ ly) t target)
  sub_below =
      let p = a.low_out in let q = a.high_out in let r = b.low_out in let s = b.high_out in
      fitted_below (la -ℤ hb) (ha -ℤ lb) (lx -ℤ hy) (hx -ℤ ly) t target (omega (arith, ints)) (omega (arith, ints))

  mul_below : EndsBelow (mul_rule la ha lb hb t target) (mul_rule lx hx ly hy t target)
  unfolding mul_rule
  mul_below =
      let inner = inner_products la ha lb hb lx hx ly hy a.some b.some a.low_out a.high_out b.low_out b.high_out in
      fitted_below _ _ _ _ t target inner.0 inner.1

  div_inner : (p q : Bool) → (int_le (pos 0) la && int_le (pos 0) lb) ≡ p → (int_le (pos 0) lx && int_le (pos 0) ly) ≡ q
      → EndsBelow (if p then fitted (pos 0) ha t target else fitted (neg_ℤ (pos (magnitude la ha))) (pos (magnitude la ha)) t target)
      (if q then fitted (pos 0) hx t target else fitted (neg_ℤ (pos (magnitude lx hx))) (pos (magnitude lx hx)) t target)
  div_inner true true e f =
      let s = a.high_out in
      fitted_below (pos 0) ha (pos 0) hx t target (omega (arith, ints)) s
  div_inner true false e f =
      let o = a.some in let r = a.low_out in let s = a.high_out in
      let up : pos 0 ≤ℤ la = grind (arith, ints) in
      fitted_below (pos 0) ha (neg_ℤ (pos (magnitude lx hx))) (pos (magnitude lx hx)) t target (omega (arith, ints)) (omega (arith, ints))
  div_inner false true e f =
      let r = a.low_out in let s = b.low_out in
      let up_x : pos 0 ≤ℤ lx = grind (arith, ints) in
      let up_y : pos 0 ≤ℤ ly = grind (arith, ints) in
      let n : (int_le (pos 0) la && int_le (pos 0) lb) ≡ true = both_up la lb (omega (arith, ints)) (omega (arith, ints)) in
      cc
  div_inner false false e f =
      let o = a.some in let r = a.low_out in let s = a.high_out in
      let size : magnitude la ha ≤ magnitude lx hx = omega (arith, ints) in
      fitted_below (neg_ℤ (pos (magnitude la ha))) (pos (magnitude la ha)) (neg_ℤ (pos (magnitude lx hx))) (pos (magnitude lx hx)) t target (omega (arith, ints)) (omega (arith, ints))

  zero_out : only_zero ly hy ≡ true → only_zero lb hb ≡ true
  zero_out e =
      let r = b.low_out in let s = b.high_out in
      let low : pos 0 ≤ℤ ly = grind (arith, ints) in
      let high : hy ≤ℤ pos 0 = grind (arith, ints) in
      only_zero_test lb hb (omega (arith, ints)) (omega (arith, ints))

  div_outer : (p q : Bool) → only_zero lb hb ≡ p → only_zero ly hy ≡ q
      → EndsBelow (if p then None else (if int_le (pos 0) la && int_le (pos 0) lb then fitted (pos 0) ha t target else fitted (neg_ℤ (pos (magnitude la ha))) (pos (magnitude la ha)) t target))
      (if q then None else (if int_le (pos 0) lx && int_le (pos 0) ly then fitted (pos 0) hx t target else fitted (neg_ℤ (pos (magnitude lx hx))) (pos (magnitude lx hx)) t target))
  div_outer true q e f = tt
  div_outer false true e f = let n = zero_out f in cc
  div_outer false false e f = div_inner (int_le (pos 0) la && int_le (pos 0) lb) (int_le (pos 0) lx && int_le (pos 0) ly) refl refl

  div_below : EndsBelow (div_rule la ha lb hb t target) (div_rule lx hx ly hy t target)
  unfolding div_rule
  div_below = div_outer (only_zero lb hb) (only_zero ly hy) refl refl

  magnitude_out : magnitude la ha ≤ magnitude lx hx
  magnitude_out = let o = a.some in let r = a.low_out in let s = a.high_out in omega (arith, ints)

  magnitude_out_b : magnitude lb hb ≤ magnitude ly hy
  magnitude_out_b = let o = b.some in let r = b.low_out in let s = b.high_out in omega (arith, ints)

  rem_sizes : min (magnitude la ha) (magnitude lb hb - 1) ≤ min (magnitude lx hx) (magnitude ly hy - 1)
  rem_sizes = let p = magnitude_out in let q = magnitude_out_b in omega arith

  rem_inner : (p q : Bool) → int_le (pos 0) la ≡ p → int_le (pos 0) lx ≡ q
      → EndsBelow (if p then fitted (pos 0) (pos (min (magnitude la ha) (magnitude lb hb - 1))) t target
      else fitted (neg_ℤ (pos (min (magnitude la ha) (magnitude lb hb - 1)))) (pos (min (magnitude la ha) (magnitude lb hb - 1))) t target)
      (if q then fitted (pos 0) (pos (min (magnitude lx hx) (magnitude ly hy - 1))) t target
      else fitted (neg_ℤ (pos (min (magnitude lx hx) (magnitude ly hy - 1)))) (pos (min (magnitude lx hx) (magnitude ly hy - 1))) t target)
  rem_inner true true e f = let size = rem_sizes in fitted_below (pos 0) (pos (min (magnitude la ha) (magnitude lb hb - 1))) (pos 0) (pos (min (magnitude lx hx) (magnitude ly hy - 1))) t target (omega (arith, ints)) (omega (arith, ints))
  rem_inner true false e f = let size = rem_sizes in fitted_below (pos 0) (pos (min (magnitude la ha) (magnitude lb hb - 1))) (neg_ℤ (pos (min (magnitude lx hx) (magnitude ly hy - 1)))) (pos (min (magnitude lx hx) (magnitude ly hy - 1))) t target (omega (arith, ints)) (omega (arith, ints))
  rem_inner false true e f =
      let r = a.low_out in
      let up : pos 0 ≤ℤ lx = grind (arith, ints) in
      let n : int_le (pos 0) la ≡ true = le_true (pos 0) la (omega (arith, ints)) in
      cc
  rem_inner false false e f = let size = rem_sizes in fitted_below (neg_ℤ (pos (min (magnitude la ha) (magnitude lb hb - 1)))) (pos (min (magnitude la ha) (magnitude lb hb - 1))) (neg_ℤ (pos (min (magnitude lx hx) (magnitude ly hy - 1)))) (pos (min (magnitude lx hx) (magnitude ly hy - 1))) t target (omega (arith, ints)) (omega (arith, ints))

  rem_outer : (p q : Bool) → only_zero lb hb ≡ p → only_zero ly hy ≡ q
      → EndsBelow (if p then None else (if int_le (pos 0) la then fitted (pos 0) (pos (min (magnitude la ha) (magnitude lb hb - 1))) t target
      else fitted (neg_ℤ (pos (min (magnitude la ha) (magnitude lb hb - 1)))) (pos (min (magnitude la ha) (magnitude lb hb - 1))) t target))
      (if q then None else (if int_le (pos 0) lx then fitted (pos 0) (pos (min (magnitude lx hx) (magnitude ly hy - 1))) t target
      else fitted (neg_ℤ (pos (min (magnitude lx hx) (magnitude ly hy - 1)))) (pos (min (magnitude lx hx) (magnitude ly hy - 1))) t target))
  rem_outer true q e f = tt
  rem_outer false true e f = let n = zero_out f in cc
  rem_outer false false e f = rem_inner (int_le (pos 0) la) (int_le (pos 0) lx) refl refl

  rem_below : EndsBelow (rem_rule la ha lb hb t target) (rem_rule lx hx ly hy t target)
  unfolding rem_rule
  rem_below = rem_outer (only_zero lb hb) (only_zero ly hy) refl refl

  -- `&`: an operand that is not negative stays so further in
  up_in : int_le (pos 0) lx ≡ true → int_le (pos 0) la ≡ true
  up_in e = let r = a.low_out in let up : pos 0 ≤ℤ lx = grind (arith, ints) in le_true (pos 0) la (omega (arith, ints))

  up_in_b : int_le (pos 0) ly ≡ true → int_le (pos 0) lb ≡ true
  up_in_b e = let r = b.low_out in let up : pos 0 ≤ℤ ly = grind (arith, ints) in le_true (pos 0) lb (omega (arith, ints))

  and_inner : (p q p' q' : Bool) → int_le (pos 0) la ≡ p → int_le (pos 0) lb ≡ q → int_le (pos 0) lx ≡ p' → int_le (pos 0) ly ≡ q' → hx ≤ℤ most_of t target → hy ≤ℤ most_of t target
      → EndsBelow (if p then (if q then Some (pos 0, int_min ha hb) else Some (pos 0, ha)) else (if q then Some (pos 0, hb) else whole_ends t target))
      (if p' then (if q' then Some (pos 0, int_min hx hy) else Some (pos 0, hx)) else (if q' then Some (pos 0, hy) else whole_ends t target))
  and_inner true true true true e f g h k l = let s = a.high_out in let u = b.high_out in (omega (arith, ints), omega (arith, ints, clamps))
  and_inner true true true false e f g h k l = let s = a.high_out in let u = b.high_out in (omega (arith, ints), omega (arith, ints, clamps))
  and_inner true true false true e f g h k l = let s = a.high_out in let u = b.high_out in (omega (arith, ints), omega (arith, ints, clamps))
  and_inner true true false false e f g h k l = let s = a.high_out in let u = b.high_out in (least_low t target, omega (arith, ints, clamps))
  and_inner true false true true e f g h k l = let n = up_in_b h in cc
  and_inner true false true false e f g h k l = let s = a.high_out in (omega (arith, ints), s)
  and_inner true false false true e f g h k l = let n = up_in_b h in cc
  and_inner true false false false e f g h k l = let s = a.high_out in (least_low t target, omega (arith, ints))
  and_inner false q true q' e f g h k l = let n = up_in g in cc
  and_inner false true false true e f g h k l = let u = b.high_out in (omega (arith, ints), u)
  and_inner false true false false e f g h k l = let u = b.high_out in (least_low t target, omega (arith, ints))
  and_inner false false false true e f g h k l = let n = up_in_b h in cc
  and_inner false false false false e f g h k l = ends_itself (whole_ends t target)

  and_below : hx ≤ℤ most_of t target → hy ≤ℤ most_of t target → EndsBelow (and_rule la ha lb hb t target) (and_rule lx hx ly hy t target)
  unfolding and_rule
  and_below k l = and_inner (int_le (pos 0) la) (int_le (pos 0) lb) (int_le (pos 0) lx) (int_le (pos 0) ly) refl refl refl refl k l

  -- `|` and `^`
  or_width : pos 0 ≤ℤ la → pos 0 ≤ℤ lb → hx <ℤ pos (2 ^ 64) → hy <ℤ pos (2 ^ 64) → width_of (int_max ha hb) ≤ width_of (int_max hx hy)
  or_width up_a up_b top_x top_y =
      let o = a.some in let n = b.some in let s = a.high_out in let u = b.high_out in
      width_grows (int_max ha hb) (int_max hx hy) (omega (arith, ints, clamps)) (omega (arith, ints, clamps)) (omega (arith, ints, clamps))

  or_most : pos 0 ≤ℤ la → pos 0 ≤ℤ lb → hx ≤ℤ most_of t target → hy ≤ℤ most_of t target → pos (2 ^ width_of (int_max ha hb) - 1) ≤ℤ most_of t target
  or_most up_a up_b k l =
      let o = a.some in let n = b.some in let s = a.high_out in let u = b.high_out in
      width_within (int_max ha hb) t target (omega (arith, ints, clamps)) (omega (arith, ints, clamps))

  or_inner : (p p' : Bool) → (int_le (pos 0) la && int_le (pos 0) lb) ≡ p → (int_le (pos 0) lx && int_le (pos 0) ly) ≡ p' → hx ≤ℤ most_of t target → hy ≤ℤ most_of t target → hx <ℤ pos (2 ^ 64) → hy <ℤ pos (2 ^ 64)
      → EndsBelow (if p then Some (pos 0, pos (2 ^ width_of (int_max ha hb) - 1)) else whole_ends t target)
      (if p' then Some (pos 0, pos (2 ^ width_of (int_max hx hy) - 1)) else whole_ends t target)
  or_inner true true e f k l top_x top_y =
      let up_a : pos 0 ≤ℤ la = grind (arith, ints) in
      let up_b : pos 0 ≤ℤ lb = grind (arith, ints) in
      let w = or_width up_a up_b top_x top_y in
      let pow : 2 ^ width_of (int_max ha hb) ≤ 2 ^ width_of (int_max hx hy) = pow_mono w in
      (omega (arith, ints), omega (arith, ints))
  or_inner true false e f k l top_x top_y =
      let up_a : pos 0 ≤ℤ la = grind (arith, ints) in
      let up_b : pos 0 ≤ℤ lb = grind (arith, ints) in
      (least_low t target, or_most up_a up_b k l)
  or_inner false true e f k l top_x top_y =
      let r = a.low_out in let s = b.low_out in
      let up_x : pos 0 ≤ℤ lx = grind (arith, ints) in
      let up_y : pos 0 ≤ℤ ly = grind (arith, ints) in
      let n : (int_le (pos 0) la && int_le (pos 0) lb) ≡ true = both_up la lb (omega (arith, ints)) (omega (arith, ints)) in
      cc
  or_inner false false e f k l top_x top_y = ends_itself (whole_ends t target)

  or_below : hx ≤ℤ most_of t target → hy ≤ℤ most_of t target → hx <ℤ pos (2 ^ 64) → hy <ℤ pos (2 ^ 64) → EndsBelow (or_rule la ha lb hb t target) (or_rule lx hx ly hy t target)
  unfolding or_rule
  or_below k l top_x top_y = or_inner (int_le (pos 0) la && int_le (pos 0) lb) (int_le (pos 0) lx && int_le (pos 0) ly) refl refl k l top_x top_y

  -- comparisons
  lt_below : EndsBelow (lt_rule la ha lb hb) (lt_rule lx hx ly hy)
  lt_below =
      let o = a.some in let n = b.some in let p = a.low_out in let q = a.high_out in let r = b.low_out in let s = b.high_out in
      verdict_below (int_lt ha lb) (int_le hb la) (int_lt hx ly) (int_le hy lx) (λ e. grind (arith, ints)) (λ e. grind (arith, ints)) (λ e f. never_both ha lb hb la e f o n)

  le_below : EndsBelow (le_rule la ha lb hb) (le_rule lx hx ly hy)
  le_below =
      let o = a.some in let n = b.some in let p = a.low_out in let q = a.high_out in let r = b.low_out in let s = b.high_out in
      verdict_below (int_le ha lb) (int_lt hb la) (int_le hx ly) (int_lt hy lx) (λ e. grind (arith, ints)) (λ e. grind (arith, ints)) (λ e f. never_both_le ha lb hb la e f o n)

  one_in : are_one lx hx ly hy ≡ true → are_one la ha lb hb ≡ true
  one_in e =
      let p = a.low_out in let q = a.high_out in let r = b.low_out in let s = b.high_out in
      grind (arith, ints)

  apart_in : are_apart lx hx ly hy ≡ true → are_apart la ha lb hb ≡ true
  apart_in e =
      let p = a.low_out in let q = a.high_out in let r = b.low_out in let s = b.high_out in
      grind (arith, ints)

  one_apart : are_one la ha lb hb ≡ true → are_apart la ha lb hb ≡ true → ⊥
  one_apart e f =
      let o = a.some in let n = b.some in
      grind (arith, ints)

  pub eq_below : EndsBelow (eq_rule la ha lb hb) (eq_rule lx hx ly hy)
  eq_below = verdict_below _ _ _ _ one_in apart_in one_apart

  pub ne_below : EndsBelow (ne_rule la ha lb hb) (ne_rule lx hx ly hy)
  ne_below = verdict_below _ _ _ _ apart_in one_in (λ e f. one_apart f e)

-- shifts

abbrev low_or : Ends → ℤ
low_or None = pos 0
low_or (Some (low, high)) = low

ends_low : (l h low high : ℤ) → ◌≡◌ {A = Ends} (Some (l, h)) (Some (low, high)) → l ≡ low
ends_low l h low high e = ap low_or e

pub record AreCounts (low high : ℤ) : Type 0 where
  pub up : pos 0 ≤ℤ low
  pub some : low ≤ℤ high

-- the counts of a shift are none, or lie from 0 on
count_cases : (P : Ends → Type 0) (lb hb : ℤ) (width : ℕ) → P None → ((low high : ℤ) → AreCounts low high → P (Some (low, high))) → P (counts_of lb hb width)
count_cases P lb hb width none some = by_lt_z (int_min (pos width -ℤ pos 1) hb) (int_max (pos 0) lb)
    (λ (less : int_min (pos width -ℤ pos 1) hb <ℤ int_max (pos 0) lb). subst P (sym (between_none _ _ less)) none)
    (λ (more : int_max (pos 0) lb ≤ℤ int_min (pos width -ℤ pos 1) hb). subst P (sym (between_some _ _ more))
    (some (int_max (pos 0) lb) (int_min (pos width -ℤ pos 1) hb) (record { up = omega (arith, ints, clamps); some = more })))

counts_below : (lb hb ly hy : ℤ) (width : ℕ) → LieOut lb hb ly hy → EndsBelow (counts_of lb hb width) (counts_of ly hy width)
counts_below lb hb ly hy width b =
    let r = b.low_out in let s = b.high_out in
    between_below (int_max (pos 0) lb) (int_min (pos width -ℤ pos 1) hb) (int_max (pos 0) ly) (int_min (pos width -ℤ pos 1) hy) (omega (arith, ints, clamps)) (omega (arith, ints, clamps))

size_grows : (v w : ℤ) → pos 0 ≤ℤ v → v ≤ℤ w → unsigned_abs v ≤ unsigned_abs w
size_grows v w h k = omega (arith, ints)

shl_some : (lc hc ly hy ha hx : ℤ) (t : IntType) (target : Target) → AreCounts lc hc → EndsBelow (Some (lc, hc)) (Some (ly, hy)) → pos 0 ≤ℤ ha → ha ≤ℤ hx
    → EndsBelow (shl_by (Some (lc, hc)) ha t target) (shl_by (Some (ly, hy)) hx t target)
shl_some lc hc ly hy (negsuc ha) hx t target c h up l = absurd (omega (arith, ints))
shl_some lc hc ly hy (pos ha) (negsuc hx) t target c h up l = absurd (omega (arith, ints))
shl_some lc hc ly hy (pos ha) (pos hx) t target c h up l =
    let u = c.up in let s = c.some in let k = h.1 in
    let counts = size_grows hc hy (omega (arith, ints)) k in
    let more = times_both ha hx (unsigned_abs hc) (unsigned_abs hy) (omega (arith, ints)) counts in
    fitted_below (pos 0) (pos ha *ℤ pos (2 ^ unsigned_abs hc)) (pos 0) (pos hx *ℤ pos (2 ^ unsigned_abs hy)) t target (omega (arith, ints)) (omega (arith, ints))

shl_counts : (lc hc : ℤ) (d : Ends) (ha hx : ℤ) (t : IntType) (target : Target) → AreCounts lc hc → EndsBelow (Some (lc, hc)) d → pos 0 ≤ℤ ha → ha ≤ℤ hx
    → EndsBelow (shl_by (Some (lc, hc)) ha t target) (shl_by d hx t target)
shl_counts lc hc None ha hx t target c h up l = absurd h
shl_counts lc hc (Some (ly, hy)) ha hx t target c h up l = shl_some lc hc ly hy ha hx t target c h up l

shl_inner : (p p' : Bool) (la ha lb hb lx hx ly hy : ℤ) (t : IntType) (target : Target) → int_lt ha (pos 0) ≡ p → int_lt hx (pos 0) ≡ p' → LieOut la ha lx hx → LieOut lb hb ly hy
    → EndsBelow (if p then None else shl_by (counts_of lb hb (bits_of t target)) ha t target) (if p' then None else shl_by (counts_of ly hy (bits_of t target)) hx t target)
shl_inner true p' la ha lb hb lx hx ly hy t target e f a b = tt
shl_inner false true la ha lb hb lx hx ly hy t target e f a b =
    let s = a.high_out in
    let down : hx <ℤ pos 0 = grind (arith, ints) in
    let n : int_lt ha (pos 0) ≡ true = lt_true ha (pos 0) (omega (arith, ints)) in
    cc
shl_inner false false la ha lb hb lx hx ly hy t target e f a b =
    let up : pos 0 ≤ℤ ha = grind (arith, ints) in
    let below = counts_below lb hb ly hy (bits_of t target) b in
    count_cases (λ c. EndsBelow c (counts_of ly hy (bits_of t target)) → EndsBelow (shl_by c ha t target) (shl_by (counts_of ly hy (bits_of t target)) hx t target))
    lb hb (bits_of t target) (λ h. tt) (λ low high c h. shl_counts low high (counts_of ly hy (bits_of t target)) ha hx t target c h up a.high_out) below

shl_below : (la ha lb hb lx hx ly hy : ℤ) (t : IntType) (target : Target) → LieOut la ha lx hx → LieOut lb hb ly hy → EndsBelow (shl_rule la ha lb hb t target) (shl_rule lx hx ly hy t target)
unfolding shl_rule
shl_below la ha lb hb lx hx ly hy t target a b = shl_inner (int_lt ha (pos 0)) (int_lt hx (pos 0)) la ha lb hb lx hx ly hy t target refl refl a b

shr_top : (p p' : Bool) (ha hx : ℤ) (m n : ℕ) → int_lt ha (pos 0) ≡ p → int_lt hx (pos 0) ≡ p' → ha ≤ℤ hx → n ≤ m
    → (if p then neg_ℤ (pos 1) else floor_of ha m) ≤ℤ (if p' then neg_ℤ (pos 1) else floor_of hx n)
shr_top true true ha hx m n e f h k = omega (arith, ints)
shr_top true false ha (pos hx) m n e f h k = omega (arith, ints)
shr_top true false ha (negsuc hx) m n e f h k = cc
shr_top false true ha hx m n e f h k =
    let down : hx <ℤ pos 0 = grind (arith, ints) in
    let n : int_lt ha (pos 0) ≡ true = lt_true ha (pos 0) (omega (arith, ints)) in
    cc
shr_top false false (pos ha) (pos hx) m n e f h k = let d = div_both ha hx m n (omega (arith, ints)) k in omega (arith, ints)
shr_top false false (pos ha) (negsuc hx) m n e f h k = cc
shr_top false false (negsuc ha) hx m n e f h k = cc

shr_counts : (lc hc : ℤ) (d : Ends) (la ha lx hx : ℤ) → AreCounts lc hc → EndsBelow (Some (lc, hc)) d → ((low high : ℤ) → d ≡ Some (low, high) → pos 0 ≤ℤ low) → lx ≤ℤ la → ha ≤ℤ hx
    → EndsBelow (shr_by (Some (lc, hc)) la ha) (shr_by d lx hx)
shr_counts lc hc None la ha lx hx c h up l k = absurd h
shr_counts lc hc (Some (ly, hy)) la ha lx hx c h up l k =
    let counts = size_grows ly lc (up ly hy refl) h.0 in
    (omega (arith, ints, clamps), shr_top (int_lt ha (pos 0)) (int_lt hx (pos 0)) ha hx (unsigned_abs lc) (unsigned_abs ly) refl refl k counts)

counts_up : (lb hb : ℤ) (width : ℕ) (low high : ℤ) → counts_of lb hb width ≡ Some (low, high) → pos 0 ≤ℤ low
counts_up lb hb width low high = count_cases (λ c. c ≡ Some (low, high) → pos 0 ≤ℤ low) lb hb width
    (λ e. cc)
    (λ l h c e. let same : l ≡ low = ends_low l h low high e in subst (λ (x : ℤ). pos 0 ≤ℤ x) same c.up)

shr_below : (la ha lb hb lx hx ly hy : ℤ) (t : IntType) (target : Target) → LieOut la ha lx hx → LieOut lb hb ly hy → EndsBelow (shr_rule la ha lb hb t target) (shr_rule lx hx ly hy t target)
unfolding shr_rule
shr_below la ha lb hb lx hx ly hy t target a b =
    let below = counts_below lb hb ly hy (bits_of t target) b in
    count_cases (λ c. EndsBelow c (counts_of ly hy (bits_of t target)) → EndsBelow (shr_by c la ha) (shr_by (counts_of ly hy (bits_of t target)) lx hx))
    lb hb (bits_of t target) (λ h. tt)
    (λ low high c h. shr_counts low high (counts_of ly hy (bits_of t target)) la ha lx hx c h (counts_up ly hy (bits_of t target)) a.low_out a.high_out) below

-- any operator
pub rule_grows : (o : BinOp) (la ha lb hb lx hx ly hy : ℤ) (t : IntType) (target : Target) → LieOut la ha lx hx → LieOut lb hb ly hy
    → hx <ℤ pos (2 ^ 64) → hy <ℤ pos (2 ^ 64) → hx ≤ℤ most_of t target → (is_shift o ≡ false → hy ≤ℤ most_of t target)
    → EndsBelow (rule_of o la ha lb hb t target) (rule_of o lx hx ly hy t target)
unfolding rule_of
rule_grows op.Add la ha lb hb lx hx ly hy t target a b top_x top_y k l = add_below la ha lb hb lx hx ly hy t target a b
rule_grows op.Sub la ha lb hb lx hx ly hy t target a b top_x top_y k l = sub_below la ha lb hb lx hx ly hy t target a b
rule_grows op.Mul la ha lb hb lx hx ly hy t target a b top_x top_y k l = mul_below la ha lb hb lx hx ly hy t target a b
rule_grows op.Div la ha lb hb lx hx ly hy t target a b top_x top_y k l = div_below la ha lb hb lx hx ly hy t target a b
rule_grows op.Rem la ha lb hb lx hx ly hy t target a b top_x top_y k l = rem_below la ha lb hb lx hx ly hy t target a b
rule_grows op.And la ha lb hb lx hx ly hy t target a b top_x top_y k l = and_below la ha lb hb lx hx ly hy t target a b k (l refl)
rule_grows op.Or la ha lb hb lx hx ly hy t target a b top_x top_y k l = or_below la ha lb hb lx hx ly hy t target a b k (l refl) top_x top_y
rule_grows op.Xor la ha lb hb lx hx ly hy t target a b top_x top_y k l = or_below la ha lb hb lx hx ly hy t target a b k (l refl) top_x top_y
rule_grows op.Shl la ha lb hb lx hx ly hy t target a b top_x top_y k l = shl_below la ha lb hb lx hx ly hy t target a b
rule_grows op.Shr la ha lb hb lx hx ly hy t target a b top_x top_y k l = shr_below la ha lb hb lx hx ly hy t target a b
rule_grows op.Lt la ha lb hb lx hx ly hy t target a b top_x top_y k l = lt_below la ha lb hb lx hx ly hy t target a b
rule_grows op.Le la ha lb hb lx hx ly hy t target a b top_x top_y k l = le_below la ha lb hb lx hx ly hy t target a b
rule_grows op.Gt la ha lb hb lx hx ly hy t target a b top_x top_y k l = lt_below lb hb la ha ly hy lx hx t target b a
rule_grows op.Ge la ha lb hb lx hx ly hy t target a b top_x top_y k l = le_below lb hb la ha ly hy lx hx t target b a
rule_grows op.Eq la ha lb hb lx hx ly hy t target a b top_x top_y k l = eq_below la ha lb hb lx hx ly hy t target a b
rule_grows op.Ne la ha lb hb lx hx ly hy t target a b top_x top_y k l = ne_below la ha lb hb lx hx ly hy t target a b
