-- Definitions of cc_cells, passed on.
pub use Rattle.cc_cells.specs.Cells
pub use Rattle.cc_cells.specs.Scalars
