-- Lemmas of cc_lex, passed on.
pub use Rattle.cc_lex.proofs.Whole
