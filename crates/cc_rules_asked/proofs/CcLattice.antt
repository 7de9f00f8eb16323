-- Lemmas of cc_lattice, passed on.
pub use Rattle.cc_rules.proofs.CcLattice.IntValues
