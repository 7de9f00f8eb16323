-- Definitions of cc_cells, passed on.
pub use Rattle.cc_rules_flows.specs.CcCells.Cells
pub use Rattle.cc_rules_flows.specs.CcCells.Scalars
