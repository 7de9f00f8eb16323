use Rattle.std.proofs.Common.{◌≡◌, ℕ, Bool, true, false, ap, sym, ◌∙◌}
use Rattle.cc_rules_asked.specs.Unstable.{is_unstable_by, key_at}
use Rattle.cc_rules_asked.proofs.StabilityLemmas.{kept_on, left_on}
use Rattle.cc_rules_asked.proofs.stability.unstable_cells.Goals as goal
use Rattle.cc_rules_asked.proofs.stability.unstable_cells.Goals.{then-is_unstable+in_ok-push, else-is_unstable}

pub loop-cell-preserved : goal.loop-cell-preserved
loop-cell-preserved c =
    let u = λ (j : ℕ). is_unstable_by c.args.running c.args.writers.now (key_at c.args.keys.now j) in
    let same : c.is_unstable.result ≡ u c.loop-cell.cell = c.is_unstable.ensures ∙ ap (is_unstable_by c.args.running c.args.writers.now) c.key_at.ensures in
    elim c.if-is_unstable.branch [
      | then-is_unstable+in_ok-push w ↦ kept_on u c.loop-cell.cell c.loop-cell.cells.items c.if-is_unstable.cells.items c.loop-cell.invariant (sym same ∙ w.if-is_unstable.true) (ap (λ v. v.items) w.cells-is ∙ w.in_ok-push.ensures.items)
      | else-is_unstable w ↦ left_on u c.loop-cell.cell c.loop-cell.cells.items c.if-is_unstable.cells.items c.loop-cell.invariant (sym same ∙ w.if-is_unstable.false) (ap (λ v. v.items) w.cells-is)
    ]
