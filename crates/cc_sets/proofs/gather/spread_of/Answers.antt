-- The ends of a range lie far apart.
use Rattle.std.proofs.Common.{rules, ◌≡◌, ◌∙◌, ℤ, sym, subst, FitsSigned, to_z-of_z}
use Rattle.std.specs.Int.{w128}
use Rattle.cc_sets.specs.declared.range.Range.{Range}
use Rattle.cc_sets.specs.Ranges.{IsSpread}
use Rattle.cc_sets.specs.Rungs.{low_of, high_of}
use Rattle.cc_sets.specs.laws.Ends.{range_spread}
use Rattle.cc_sets.proofs.gather.spread_of.Goals as goal

spread_same : (r : Range) (low high : ℤ) → low ≡ low_of r → high ≡ high_of r → IsSpread low high
spread_same r low high e f = subst (λ (x : ℤ). IsSpread x high) (sym e) (subst (λ (x : ℤ). IsSpread (low_of r) x) (sym f) (range_spread r))

pub invariant_of-result : goal.invariant_of-result
invariant_of-result c =
    let f : FitsSigned w128 c.low.result = search rules in
    let g : FitsSigned w128 c.high.result = search rules in
    record { wide = spread_same c.args.range.now _ _ (to_z-of_z f ∙ c.low.ensures) (to_z-of_z g ∙ c.high.ensures) }
