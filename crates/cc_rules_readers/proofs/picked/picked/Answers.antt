use Rattle.std.proofs.Common.{ℕ, Bool, slice_get, ap, sym, ◌∙◌}
use Rattle.cc_rules_asked.proofs.StabilityLemmas.{kept_on, left_on}
use Rattle.cc_rules_readers.specs.Points.{on, passes_in}
use Rattle.cc_rules_readers.proofs.picked.picked.Goals as goal
use Rattle.cc_rules_readers.proofs.picked.picked.Goals.{then-passes_at+in_ok-push, else-passes_at}

pub loop-point-preserved : goal.loop-point-preserved
loop-point-preserved c =
    let u : ℕ → Bool = λ n. on (passes_in c.args.test) (slice_get c.args.deeds.now n) in
    elim c.if-passes_at.branch [
      | then-passes_at+in_ok-push w ↦ kept_on u c.loop-point.point c.loop-point.points.items c.if-passes_at.points.items c.loop-point.invariant (sym c.passes_at.ensures ∙ w.if-passes_at.true) (ap (λ v. v.items) w.points-is ∙ w.in_ok-push.ensures.items)
      | else-passes_at w ↦ left_on u c.loop-point.point c.loop-point.points.items c.if-passes_at.points.items c.loop-point.invariant (sym c.passes_at.ensures ∙ w.if-passes_at.false) (ap (λ v. v.items) w.points-is)
    ]
