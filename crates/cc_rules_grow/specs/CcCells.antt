-- Definitions of cc_cells, passed on.
pub use Rattle.cc_rules.specs.CcCells.Cells
pub use Rattle.cc_rules.specs.CcCells.Scalars
