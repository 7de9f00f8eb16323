-- Definitions of cc_lattice, passed on.
pub use Rattle.cc_rules.specs.CcLattice.Systems
pub use Rattle.cc_rules.specs.CcLattice.Tables
