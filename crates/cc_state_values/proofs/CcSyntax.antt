-- Lemmas of cc_syntax, passed on.
pub use Rattle.cc_state_operators.proofs.CcSyntax.AlikeLemmas
pub use Rattle.cc_state_operators.proofs.CcSyntax.NameRules
pub use Rattle.cc_state_operators.proofs.CcSyntax.Prefixes
pub use Rattle.cc_state_operators.proofs.CcSyntax.SameLemmas
