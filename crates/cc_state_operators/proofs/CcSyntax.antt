-- Lemmas of cc_syntax, passed on.
pub use Rattle.cc_eval.proofs.CcSyntax.AlikeLemmas
pub use Rattle.cc_eval.proofs.CcSyntax.NameRules
pub use Rattle.cc_eval.proofs.CcSyntax.Prefixes
pub use Rattle.cc_eval.proofs.CcSyntax.SameLemmas
