-- Lemmas of cc_initialisers, passed on.
pub use Rattle.cc_typed_bodies.proofs.CcInitialisers.Layers
