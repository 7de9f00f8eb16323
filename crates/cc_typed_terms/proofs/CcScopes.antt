-- Lemmas of cc_scopes, passed on.
pub use Rattle.cc_scopes.proofs.LinkedLemmas
