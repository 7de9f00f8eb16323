use Rattle.std.proofs.Common.{ℕ, Bool, ◌++◌, ◌∷◌, [], slice_get, ap, sym, ◌∙◌}
use Rattle.cc_rules_asked.specs.CcRules.Constraints.{Flow}
use Rattle.cc_rules_again.specs.Again.{number_at}
use Rattle.cc_rules_readers.specs.Points.{on, reads_in}
use Rattle.cc_rules_readers.proofs.Numbers.{put_kept, put_left}
use Rattle.cc_rules_readers.proofs.lists.put_reads.Goals as goal
use Rattle.cc_rules_readers.proofs.lists.put_reads.Goals.{then-passes_at+in_ok-push, else-passes_at}

pub loop-point-preserved : goal.loop-point-preserved
loop-point-preserved c =
    let u : ℕ → Bool = λ n. on (reads_in c.args.keys) (slice_get c.args.deeds.now n) in
    elim c.if-passes_at.branch [
      | then-passes_at+in_ok-push w ↦
          put_kept (number_at Flow) u c.args.points.now c.loop-point.point-index c.args.list.now.items c.loop-point.list.items c.if-passes_at.list.items c.loop-point-test.true c.loop-point.invariant (sym c.passes_at.ensures ∙ w.if-passes_at.true)
          (ap (λ v. v.items) w.list-is ∙ (w.in_ok-push.ensures.items ∙ ap (λ (n : ℕ). c.loop-point.list.items ++ n ∷ []) w.number_at.ensures))
      | else-passes_at w ↦
          put_left (number_at Flow) u c.args.points.now c.loop-point.point-index c.args.list.now.items c.loop-point.list.items c.if-passes_at.list.items c.loop-point-test.true c.loop-point.invariant (sym c.passes_at.ensures ∙ w.if-passes_at.false)
          (ap (λ v. v.items) w.list-is)
    ]
