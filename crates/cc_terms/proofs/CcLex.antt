-- Lemmas of cc_lex, passed on.
pub use Rattle.cc_typed_terms.proofs.CcLex.Whole
