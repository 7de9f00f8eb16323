-- The ends are those of the rule.
use Rattle.std.proofs.Common.{rules, ◌≡◌, ◌∙◌, ℕ, Bool, true, false, ℤ, pos, ◌≤ℤ◌, ◌<ℤ◌, sym, ap₂, arith, FitsSigned, to_z, of_z, to_z-of_z}
use Rattle.std.specs.Int.{w128}
use Rattle.std.proofs.lemmas.Int.{ints}
use Rattle.cc_num.specs.declared.int_type.IntType.{IntType}
use Rattle.cc_num.specs.declared.target.Target.{Target}
use Rattle.cc_sets.specs.declared.range.Range.{Range}
use Rattle.cc_sets.specs.Ranges.{IsSpread}
use Rattle.cc_sets.specs.Rungs.{low_of, high_of}
use Rattle.cc_sets.specs.laws.Ends.{range_spread}
use Rattle.cc_ranges.specs.Ends.{between}
use Rattle.cc_sets.proofs.Bounds as at
use Rattle.cc_num.specs.Integers.{least_of_bits, most_of_bits}
use Rattle.cc_ranges.specs.Ends.{lies_in}
use Rattle.cc_sets.specs.laws.Ends.{range_ordered}
use Rattle.cc_sets.proofs.range_rule.convert_range.Goals as goal

abbrev back : ℤ → ℤ
back z = to_z w128 (of_z w128 z)

around : (r : Range) → (low_of r ≤ℤ pos 0) × (pos 0 <ℤ high_of r)
around r = around_bits r.signed r.bits (range_spread r)
  where
    around_bits : (s : Bool) (b : ℕ) → IsSpread (least_of_bits s b) (most_of_bits s b) → (least_of_bits s b ≤ℤ pos 0) × (pos 0 <ℤ most_of_bits s b)
    around_bits true b p = let w = p.wide in (omega (arith, ints), omega (arith, ints))
    around_bits false b p = let w = p.wide in (omega (arith, ints), omega (arith, ints))

pub returns-in-Bool : goal.returns-in-Bool
returns-in-Bool c =
    let r = c.args.a.now in
    let a = around r in
    at.hull_at _ _ c.hull_between.result (at.conversion_truth (low_of r) (high_of r) c.args.t c.args.target.now c.in-Bool.is a.0 a.1) c.hull_between.ensures

tested : (low high l h : ℤ) (t : IntType) (target : Target) (b k : Bool) → l ≡ low → h ≡ high → b ≡ lies_in l h t target → b ≡ k → lies_in low high t target ≡ k
tested low high l h t target b k e f g i = sym (ap₂ (λ x y. lies_in x y t target) e f) ∙ (sym g ∙ i)

pub returns-in_default : goal.returns-in_default
returns-in_default c =
    let r = c.args.a.now in
    let f1 : FitsSigned w128 c.low.result = search rules in
    let f2 : FitsSigned w128 c.high.result = search rules in
    let f3 : FitsSigned w128 c.low-in_default.result = search rules in
    let f4 : FitsSigned w128 c.high-in_default.result = search rules in
    at.hull_at _ _ c.hull_between-in_default.result
    (ap₂ between (to_z-of_z f3 ∙ c.low-in_default.ensures) (to_z-of_z f4 ∙ c.high-in_default.ensures)
    ∙ at.conversion_inside (low_of r) (high_of r) c.args.t c.args.target.now c.in_default.not-Bool (range_ordered r)
    (tested (low_of r) (high_of r) _ _ c.args.t c.args.target.now c.fits.result true (to_z-of_z f1 ∙ c.low.ensures) (to_z-of_z f2 ∙ c.high.ensures) c.fits.ensures c.if-fits.true))
    c.hull_between-in_default.ensures

pub returns-in_default-2 : goal.returns-in_default-2
returns-in_default-2 c =
    let r = c.args.a.now in
    let f1 : FitsSigned w128 c.low.result = search rules in
    let f2 : FitsSigned w128 c.high.result = search rules in
    let f3 : FitsSigned w128 c.least.result = search rules in
    let f4 : FitsSigned w128 c.most.result = search rules in
    at.hull_at _ _ c.hull_between-in_default-2.result
    (ap₂ between (to_z-of_z f3 ∙ c.least.ensures.value) (to_z-of_z f4 ∙ c.most.ensures.value)
    ∙ at.conversion_outside (low_of r) (high_of r) c.args.t c.args.target.now c.in_default.not-Bool
    (tested (low_of r) (high_of r) _ _ c.args.t c.args.target.now c.fits.result false (to_z-of_z f1 ∙ c.low.ensures) (to_z-of_z f2 ∙ c.high.ensures) c.fits.ensures c.if-fits.false))
    c.hull_between-in_default-2.ensures
