-- Lemmas of cc_lex, passed on.
pub use Rattle.cc_operands.proofs.CcLex.Whole
