-- Definitions of cc_cells, passed on.
pub use Rattle.cc_steps.specs.CcCells.Cells
pub use Rattle.cc_steps.specs.CcCells.Scalars
