-- Definitions of cc_cells, passed on.
pub use Rattle.cc_states.specs.CcCells.Cells
pub use Rattle.cc_states.specs.CcCells.Scalars
