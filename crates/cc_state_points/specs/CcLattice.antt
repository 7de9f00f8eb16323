-- Definitions of cc_lattice, passed on.
pub use Rattle.cc_rules_flows.specs.CcLattice.Domains
pub use Rattle.cc_rules_flows.specs.CcLattice.Orders
