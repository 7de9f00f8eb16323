-- Lemmas of cc_lattice, passed on.
pub use Rattle.cc_state_reads.proofs.CcLattice.IntValues
