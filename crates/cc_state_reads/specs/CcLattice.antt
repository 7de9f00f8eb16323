-- Definitions of cc_lattice, passed on.
pub use Rattle.cc_state_values.specs.CcLattice.Domains
pub use Rattle.cc_state_values.specs.CcLattice.Orders
pub use Rattle.cc_state_values.specs.CcLattice.Systems
pub use Rattle.cc_state_values.specs.CcLattice.Tables
