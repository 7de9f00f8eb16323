-- Definitions of cc_lattice, passed on.
pub use Rattle.cc_state_operators.specs.CcLattice.Domains
pub use Rattle.cc_state_operators.specs.CcLattice.Orders
pub use Rattle.cc_state_operators.specs.CcLattice.Systems
pub use Rattle.cc_state_operators.specs.CcLattice.Tables
