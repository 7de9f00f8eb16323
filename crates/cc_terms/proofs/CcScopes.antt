-- Lemmas of cc_scopes, passed on.
pub use Rattle.cc_typed_terms.proofs.CcScopes.LinkedLemmas
