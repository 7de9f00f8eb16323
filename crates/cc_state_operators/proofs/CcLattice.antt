-- Lemmas of cc_lattice, passed on.
pub use Rattle.cc_lattice.proofs.IntValues
