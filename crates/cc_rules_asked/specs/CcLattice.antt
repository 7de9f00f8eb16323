-- Definitions of cc_lattice, passed on.
pub use Rattle.cc_rules.specs.CcLattice.Domains
pub use Rattle.cc_rules.specs.CcLattice.Orders
pub use Rattle.cc_rules.specs.CcLattice.Systems
