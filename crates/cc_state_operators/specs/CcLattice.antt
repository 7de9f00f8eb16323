-- Definitions of cc_lattice, passed on.
pub use Rattle.cc_lattice.specs.Domains
pub use Rattle.cc_lattice.specs.Orders
pub use Rattle.cc_lattice.specs.Systems
pub use Rattle.cc_lattice.specs.Tables
