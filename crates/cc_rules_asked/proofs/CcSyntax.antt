-- Lemmas of cc_syntax, passed on.
pub use Rattle.cc_rules.proofs.CcSyntax.NameRules
