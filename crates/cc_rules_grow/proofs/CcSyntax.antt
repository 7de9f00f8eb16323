-- Lemmas of cc_syntax, passed on.
pub use Rattle.cc_rules.proofs.CcSyntax.AlikeLemmas
pub use Rattle.cc_rules.proofs.CcSyntax.NameRules
pub use Rattle.cc_rules.proofs.CcSyntax.Prefixes
pub use Rattle.cc_rules.proofs.CcSyntax.SameLemmas
