-- A shift to the right gives the floor, which is an end.
use Rattle.std.proofs.Common.{◌≡◌, ℕ, ◌^◌, true, false, ℤ, pos, negsuc, neg_ℤ, ◌≤ℤ◌, ◌<ℤ◌, int_lt, unsigned_abs, FitsSigned, Some, if◌then◌else◌, refl, sym, ap, ap₂, ◌∙◌, arith, rules, div-le_self, to_z, of_z, to_z-of_z}
use Rattle.std.specs.Int.{w128, int_min}
use Rattle.std.specs.Int.Signed.{shr_z}
use Rattle.std.proofs.lemmas.Int.{ints, clamps, by_lt_z}
use Rattle.cc_num.specs.declared.int_type.IntType.{IntType}
use Rattle.cc_num.specs.declared.target.Target.{Target}
use Rattle.cc_num.specs.Integers.{bits_of}
use Rattle.cc_num.specs.Results.{floor_of}
use Rattle.cc_num.proofs.Exact.{IsNarrow}
use Rattle.cc_ranges.specs.Ends.{Ends, IsInterval}
use Rattle.cc_ranges.specs.Rules.{counts_of, shr_by, shr_rule}
use Rattle.cc_ranges.specs.laws.Fits.{lt_true, lt_false}
use Rattle.cc_ranges.proofs.Narrow.{low_narrow, high_narrow, narrow_same, test_high}
use Rattle.cc_ranges.proofs.rules.shift_right.Goals as goal
use Rattle.cc_ranges.proofs.rules.shift_right.Goals.{then-a-lt0, else-a-lt0}

-- the greatest result
abbrev shifted : ℤ → ℕ → ℤ
shifted high n = if int_lt high (pos 0) then neg_ℤ (pos 1) else floor_of high n

floor_is : (a : ℤ) (n : ℕ) → shr_z a (2 ^ n) ≡ floor_of a n
floor_is (pos a) n = refl
floor_is (negsuc a) n = refl

floor_narrow : (a : ℤ) (n : ℕ) → IsNarrow a → IsNarrow (floor_of a n)
floor_narrow (pos a) n p = let p1 = p.low in let p2 = p.high in let r = div-le_self a (2 ^ n) in record { low = omega (arith, ints); high = omega (arith, ints) }
floor_narrow (negsuc a) n p = let p1 = p.low in let p2 = p.high in let r = div-le_self a (2 ^ n) in record { low = omega (arith, ints); high = omega (arith, ints) }

floor_up : (a : ℤ) (n : ℕ) → pos 0 ≤ℤ a → pos 0 ≤ℤ floor_of a n
floor_up (pos a) n h = omega (arith, ints)
floor_up (negsuc a) n h = absurd (omega (arith, ints))

shifted_down : (high : ℤ) (n : ℕ) → int_lt high (pos 0) ≡ true → shifted high n ≡ neg_ℤ (pos 1)
shifted_down high n e = ap (λ b. if b then neg_ℤ (pos 1) else floor_of high n) e

shifted_up : (high : ℤ) (n : ℕ) → int_lt high (pos 0) ≡ false → shifted high n ≡ floor_of high n
shifted_up high n e = ap (λ b. if b then neg_ℤ (pos 1) else floor_of high n) e

interval_of : (low high x y : ℤ) (n : ℕ) → IsInterval low high → x ≡ int_min (pos 0) low → y ≡ shifted high n → IsInterval x y
interval_of low high x y n p e f =
    let o = p.ordered in let l = p.least in let m = p.most in
    by_lt_z high (pos 0)
    (λ (down : high <ℤ pos 0).
    let g : y ≡ neg_ℤ (pos 1) = f ∙ shifted_down high n (lt_true high (pos 0) down) in
    record { ordered = omega (arith, ints, clamps); least = omega (arith, ints, clamps); most = omega (arith, ints) })
    (λ (up : pos 0 ≤ℤ high).
    let g : y ≡ floor_of high n = f ∙ shifted_up high n (lt_false high (pos 0) up) in
    let k = (floor_narrow high n (high_narrow low high p)).high in
    let z = floor_up high n up in
    record { ordered = omega (arith, ints, clamps); least = omega (arith, ints, clamps); most = omega (arith, ints) })

by_counts : (la ha lb hb least most x y : ℤ) (t : IntType) (target : Target) → Some (least, most) ≡ counts_of lb hb (bits_of t target)
    → x ≡ int_min (pos 0) la → y ≡ shifted ha (unsigned_abs least) → Some (x, y) ≡ shr_rule la ha lb hb t target
unfolding shr_rule
by_counts la ha lb hb least most x y t target s e f =
    ap₂ (λ u v. Some (u, v)) e f ∙ ap (λ (e : Ends). shr_by e la ha) s

read_floor : (high low : ℤ) → IsNarrow high → IsNarrow low
    → to_z w128 (of_z w128 (shr_z (to_z w128 (of_z w128 high)) (2 ^ unsigned_abs (to_z w128 (of_z w128 low))))) ≡ floor_of high (unsigned_abs low)
read_floor high low p q =
    ap₂ (λ x y. to_z w128 (of_z w128 (shr_z x (2 ^ unsigned_abs y)))) (narrow_same high p) (narrow_same low q)
    ∙ ap (λ x. to_z w128 (of_z w128 x)) (floor_is high (unsigned_abs low))
    ∙ narrow_same (floor_of high (unsigned_abs low)) (floor_narrow high (unsigned_abs low) p)

low_is : (c : goal.Joined-a-lt0) → to_z w128 (of_z w128 c.lesser.result) ≡ int_min (pos 0) c.args.a.now.low
low_is c =
    let a = c.args.a.now in
    let f : FitsSigned w128 c.lesser.result = search rules in
    to_z-of_z f ∙ (c.lesser.ensures ∙ ap (int_min (pos 0)) (narrow_same a.low (low_narrow a.low a.high a.ends)))

high_is : (c : goal.Joined-a-lt0) → to_z w128 c.if-a-lt0.result-bits ≡ shifted c.args.a.now.high (unsigned_abs c.in-Between.counts.low)
high_is c =
    let a = c.args.a.now in
    let k = c.in-Between.counts in
    let h = high_narrow a.low a.high a.ends in
    elim c.if-a-lt0.branch [
      | then-a-lt0 w ↦ w.result-is ∙ sym (shifted_down a.high (unsigned_abs k.low) (test_high a.high true h w.if-a-lt0.true))
      | else-a-lt0 w ↦ w.result-is ∙ (read_floor a.high k.low h (low_narrow k.low k.high k.ends) ∙ sym (shifted_up a.high (unsigned_abs k.low) (test_high a.high false h w.if-a-lt0.false)))
    ]

pub invariant_of-result : goal.invariant_of-result
invariant_of-result c = record { ends = interval_of c.args.a.now.low c.args.a.now.high _ _ (unsigned_abs c.in-Between.counts.low) c.args.a.now.ends (low_is c) (high_is c) }

pub returns-after-a-lt0 : goal.returns-after-a-lt0
returns-after-a-lt0 c =
    let a = c.args.a.now in
    let b = c.args.b.now in
    by_counts a.low a.high b.low b.high c.in-Between.counts.low c.in-Between.counts.high _ _ c.args.t c.args.target.now
    (c.in-Between.ensures.value ∙ ap (counts_of b.low b.high) c.bits.ensures.value) (low_is c.before) (high_is c.before)
