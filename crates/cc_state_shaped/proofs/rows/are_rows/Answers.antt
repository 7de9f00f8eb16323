use Rattle.std.proofs.Common.{sym, ◌∙◌}
use Rattle.cc_state_shaped.proofs.Filled.{counted}
use Rattle.cc_state_shaped.proofs.Tests.{both, not_first, as_said}
use Rattle.cc_state_shaped.specs.Parts.{AreFilled}
use Rattle.cc_state_shaped.proofs.rows.are_rows.Goals as goal

pub returns-then-have_cells : goal.returns-then-have_cells
returns-then-have_cells g c =
    let e = counted c.args.rows.now in
    both c.have_cells.result c.are_filled.result (as_said c.have_cells.result (λ h. e ∙ h) (λ h. sym e ∙ h) c.have_cells.ensures) c.if-have_cells.true c.are_filled.ensures

pub returns-else-have_cells : goal.returns-else-have_cells
returns-else-have_cells g c =
    let e = counted c.args.rows.now in
    not_first {B = AreFilled c.args.rows.now} c.have_cells.result (as_said c.have_cells.result (λ h. e ∙ h) (λ h. sym e ∙ h) c.have_cells.ensures) c.if-have_cells.false
