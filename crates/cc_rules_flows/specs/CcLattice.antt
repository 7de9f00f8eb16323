-- Definitions of cc_lattice, passed on.
pub use Rattle.cc_state_reads.specs.CcLattice.Domains
pub use Rattle.cc_state_reads.specs.CcLattice.Orders
pub use Rattle.cc_state_reads.specs.CcLattice.Systems
pub use Rattle.cc_state_reads.specs.CcLattice.Tables
