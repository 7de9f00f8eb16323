-- Lemmas of cc_syntax, passed on.
pub use Rattle.cc_rules_flows.proofs.CcSyntax.AlikeLemmas
pub use Rattle.cc_rules_flows.proofs.CcSyntax.NameRules
pub use Rattle.cc_rules_flows.proofs.CcSyntax.Prefixes
pub use Rattle.cc_rules_flows.proofs.CcSyntax.SameLemmas
