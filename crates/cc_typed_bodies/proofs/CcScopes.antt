-- Lemmas of cc_scopes, passed on.
pub use Rattle.cc_terms.proofs.CcScopes.LinkedLemmas
