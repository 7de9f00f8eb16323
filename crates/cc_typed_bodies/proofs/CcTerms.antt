-- Lemmas of cc_terms, passed on.
pub use Rattle.cc_terms.proofs.Arms
