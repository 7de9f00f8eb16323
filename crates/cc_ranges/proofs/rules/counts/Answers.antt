-- The counts are those between 0 and the width, less 1.
use Rattle.std.proofs.Common.{◌≡◌, ℕ, ℤ, pos, ◌-ℤ◌, ◌≤ℤ◌, ◌<ℤ◌, to_z, of_z, sym, subst, ap₂, ◌∙◌, arith}
use Rattle.std.specs.Int.{w128, int_max, int_min}
use Rattle.std.proofs.lemmas.Int.{ints, clamps, by_lt_z}
use Rattle.cc_ranges.specs.Ends.{Ends, between}
use Rattle.cc_ranges.specs.Rules.{counts_of, AreCountsBelow}
use Rattle.cc_ranges.specs.laws.Fits.{between_some, between_none}
use Rattle.cc_ranges.proofs.rules.counts.Goals as goal

inside : (low high : ℤ) (w : ℕ) → AreCountsBelow (counts_of low high w) w
inside low high w = by_lt_z (int_min (pos w -ℤ pos 1) high) (int_max (pos 0) low)
    (λ (none : int_min (pos w -ℤ pos 1) high <ℤ int_max (pos 0) low). subst (λ (x : Ends). AreCountsBelow x w) (sym (between_none _ _ none)) tt)
    (λ (some : int_max (pos 0) low ≤ℤ int_min (pos w -ℤ pos 1) high). subst (λ (x : Ends). AreCountsBelow x w) (sym (between_some _ _ some))
    (omega (arith, ints, clamps), omega (arith, ints, clamps)))

pub returns-clause-value : goal.returns-clause-value
returns-clause-value c =
    let i = c.args.b.now.ends in
    let o = i.ordered in let l = i.least in let m = i.most in
    let low : to_z w128 (of_z w128 c.greater.result) ≡ int_max (pos 0) c.args.b.now.low = omega (arith, ints, clamps, c.greater.ensures) in
    let high : to_z w128 (of_z w128 c.lesser.result) ≡ int_min (pos c.args.bits -ℤ pos 1) c.args.b.now.high = omega (arith, ints, clamps, c.lesser.ensures, c.from.ensures) in
    c.between.ensures ∙ ap₂ between low high

pub returns-clause-inside : goal.returns-clause-inside
returns-clause-inside c =
    subst (λ (x : Ends). AreCountsBelow x c.args.bits) (sym (returns-clause-value c)) (inside c.args.b.now.low c.args.b.now.high c.args.bits)
