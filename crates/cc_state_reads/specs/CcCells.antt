-- Definitions of cc_cells, passed on.
pub use Rattle.cc_state_keys.specs.CcCells.Cells
pub use Rattle.cc_state_keys.specs.CcCells.Scalars
