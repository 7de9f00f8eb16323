-- Lemmas of cc_syntax, passed on.
pub use Rattle.cc_rules_flows.proofs.CcSyntax.Alignment
pub use Rattle.cc_rules_flows.proofs.CcSyntax.NameRules
pub use Rattle.cc_rules_flows.proofs.CcSyntax.Prefixes
pub use Rattle.cc_rules_flows.proofs.CcSyntax.Shapes
pub use Rattle.cc_rules_flows.proofs.CcSyntax.StructureLemmas
pub use Rattle.cc_rules_flows.proofs.CcSyntax.TypeLayouts
pub use Rattle.cc_rules_flows.proofs.CcSyntax.Whole
