use Rattle.std.proofs.Common.{◌≡◌, ◌+◌, take}
use Rattle.std.specs.List.{sum_by}
use Rattle.cc_state_shaped.specs.Parts.{cells_in}
use Rattle.cc_state_shaped.proofs.rows.have_cells.Given as goal

abbrev pub invariant-loop-row : goal.invariant-loop-row
invariant-loop-row g l = l.left + sum_by cells_in (take l.row-index l.rows) ≡ l.count
