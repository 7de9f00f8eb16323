-- Lemmas of cc_lattice, passed on.
pub use Rattle.cc_state_values.proofs.CcLattice.IntValues
