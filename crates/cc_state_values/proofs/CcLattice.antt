-- Lemmas of cc_lattice, passed on.
pub use Rattle.cc_state_operators.proofs.CcLattice.IntValues
