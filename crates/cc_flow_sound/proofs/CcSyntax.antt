-- Lemmas of cc_syntax, passed on.
pub use Rattle.cc_states.proofs.CcSyntax.NameRules
pub use Rattle.cc_states.proofs.CcSyntax.Prefixes
