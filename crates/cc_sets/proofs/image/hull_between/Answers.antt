-- All between two ends.
use Rattle.std.proofs.Common.{negsuc, unsigned_abs, int_lt, ◌≡◌, ◌∙◌, ℕ, ◌+◌, ◌^◌, true, false, ℤ, pos, neg_ℤ, ◌+ℤ◌, ◌-ℤ◌, ◌≤ℤ◌, ◌<ℤ◌, Some, refl, sym, ap, subst, arith, to_z, of_z, to_z-of_z}
use Rattle.std.specs.Int.{w128}
use Rattle.std.proofs.lemmas.Int.{ints, by_lt_z}
use Rattle.cc_lattice.specs.Domains.{IsInReach}
use Rattle.cc_sets.specs.declared.vals.Vals.{Vals}
use Rattle.cc_sets.specs.Rungs.{IsHull}
use Rattle.cc_ranges.specs.Ends.{Ends, EndsHave, between}
use Rattle.cc_ranges.specs.laws.Fits.{between_some, lt_true}
use Rattle.cc_sets.proofs.Adding.{hull_same}
use Rattle.cc_sets.proofs.image.hull_between.Goals as goal

run_between : (low high u : ℤ) (n : ℕ) (r : Vals) → low ≤ℤ high → u ≡ low → pos n ≡ (high -ℤ low) +ℤ pos 1 → IsHull (λ z. (u ≤ℤ z) × (z <ℤ (u +ℤ pos n))) r → IsHull (EndsHave (between low high)) r
run_between low high u n r o e f p =
    subst (λ (x : Ends). IsHull (EndsHave x) r) (sym (between_some low high o))
    (hull_same (λ z. (u ≤ℤ z) × (z <ℤ (u +ℤ pos n))) (EndsHave (Some (low, high))) r p
    (λ z h. let h0 = h.0 in let h1 = h.1 in (omega (arith, ints), omega (arith, ints)))
    (λ z h. let h0 = h.0 in let h1 = h.1 in (omega (arith, ints), omega (arith, ints))))

not_less : (a b : ℤ) → int_lt a b ≡ false → b ≤ℤ a
not_less a b e = by_lt_z a b (λ (less : a <ℤ b). absurd (clash (sym (lt_true a b less) ∙ e))) (λ (k : b ≤ℤ a). k)
  where
    clash : true ≡ false → ⊥
    clash g = cc

count_is : (d : ℤ) (n : ℕ) → pos 0 ≤ℤ d → n ≡ unsigned_abs d → pos (n + 1) ≡ d +ℤ pos 1
count_is (pos d) n h e = ap (λ (m : ℕ). pos (m + 1)) e
count_is (negsuc d) n h e = absurd (omega (arith, ints))

ordered : (low high a b : ℤ) → a ≡ low → b ≡ high → int_lt b a ≡ false → low ≤ℤ high
ordered low high a b e f t = let h = not_less b a t in omega (arith, ints)

in_reach : (low high : ℤ) → neg_ℤ (pos (2 ^ 64)) ≤ℤ low → high <ℤ pos (2 ^ 64) → low ≤ℤ high → IsInReach low × IsInReach high
in_reach low high l h o = (record { least = l; most = omega (arith, ints) }, record { least = omega (arith, ints); most = h })

difference : (low high d : ℤ) → IsInReach low → IsInReach high → d ≡ to_z w128 (of_z w128 (to_z w128 (of_z w128 high) -ℤ to_z w128 (of_z w128 low))) → d ≡ high -ℤ low
difference low high d p q e = let a = p.least in let b = p.most in let k = q.least in let l = q.most in omega (arith, ints)

pub returns-then-high-low-2 : goal.returns-then-high-low-2
returns-then-high-low-2 c =
    let low = c.args.low in
    let high = c.args.high in
    let o = ordered low high _ _ (to_z-of_z c.ranges.low) (to_z-of_z c.ranges.high) c.if-high-low.false in
    let r = in_reach low high c.requires.least c.requires.most o in
    let d = difference low high _ r.0 r.1 refl in
    run_between low high _ _ c.hull_of_run.result o (to_z-of_z c.ranges.low)
    (count_is _ _ (subst (λ (z : ℤ). pos 0 ≤ℤ z) (sym d) (omega (arith, ints))) refl ∙ ap (λ (z : ℤ). z +ℤ pos 1) d) c.hull_of_run.ensures
