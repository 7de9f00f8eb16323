-- An interval has its ends in order.
use Rattle.std.proofs.Common.{◌≡◌, ◌∙◌, ℤ, Some, sym, ap₂, subst}
use Rattle.cc_sets.specs.declared.vals.Vals.{Vals}
use Rattle.cc_sets.specs.Rungs.{IsHull}
use Rattle.cc_ranges.specs.Ends.{EndsHave, between}
use Rattle.cc_ranges.specs.laws.Fits.{between_some}
use Rattle.cc_sets.proofs.Bounds as at
use Rattle.cc_ranges.specs.declared.span.Interval.{Interval}
use Rattle.cc_ranges.specs.declared.span.Span.{Span}
use Rattle.cc_ranges.specs.declared.span.Span.TheVariants.{Between}
use Rattle.cc_ranges.specs.Spans.{ends_of}
use Rattle.cc_ranges.proofs.Narrow.{low_narrow, high_narrow, narrow_same}
use Rattle.cc_sets.proofs.range_rule.hull_of_span.Goals as goal

of_span : (s : Span) (i : Interval) (x y : ℤ) (r : Vals) → s ≡ Between i → x ≡ i.low → y ≡ i.high → IsHull (EndsHave (between x y)) r → IsHull (EndsHave (ends_of s)) r
of_span s i x y r e f g p =
    subst (λ (t : Span). IsHull (EndsHave (ends_of t)) r) (sym e)
    (at.hull_at (between x y) (Some (i.low, i.high)) r (ap₂ between f g ∙ between_some i.low i.high i.ends.ordered) p)

pub returns-in-Between : goal.returns-in-Between
returns-in-Between c =
    let i = c.in-Between.interval in
    of_span c.args.span.now i _ _ c.hull_between.result c.in-Between.is (narrow_same i.low (low_narrow i.low i.high i.ends)) (narrow_same i.high (high_narrow i.low i.high i.ends)) c.hull_between.ensures
