-- Lemmas of cc_initialisers, passed on.
pub use Rattle.cc_initialisers.proofs.Layers
