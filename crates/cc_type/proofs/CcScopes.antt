-- Lemmas of cc_scopes, passed on.
pub use Rattle.cc_typed_bodies.proofs.CcScopes.LinkedLemmas
