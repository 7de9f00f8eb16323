-- Lemmas of cc_lex, passed on.
pub use Rattle.cc_typed_bodies.proofs.CcLex.Whole
