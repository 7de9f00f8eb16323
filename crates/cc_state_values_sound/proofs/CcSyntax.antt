-- Lemmas of cc_syntax, passed on.
pub use Rattle.cc_state_values.proofs.CcSyntax.AlikeLemmas
pub use Rattle.cc_state_values.proofs.CcSyntax.NameRules
pub use Rattle.cc_state_values.proofs.CcSyntax.Prefixes
pub use Rattle.cc_state_values.proofs.CcSyntax.SameLemmas
