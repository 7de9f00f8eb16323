-- Definitions of cc_cells, passed on.
pub use Rattle.cc_state_reads.specs.CcCells.Cells
pub use Rattle.cc_state_reads.specs.CcCells.Scalars
