-- Lemmas of cc_typed_bodies, passed on.
pub use Rattle.cc_typed_bodies.proofs.Equations
