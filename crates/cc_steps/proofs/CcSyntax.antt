-- Lemmas of cc_syntax, passed on.
pub use Rattle.cc_eval.proofs.CcSyntax.AlikeLemmas
pub use Rattle.cc_eval.proofs.CcSyntax.KindRolls
pub use Rattle.cc_eval.proofs.CcSyntax.NameRules
pub use Rattle.cc_eval.proofs.CcSyntax.Parts
pub use Rattle.cc_eval.proofs.CcSyntax.Prefixes
pub use Rattle.cc_eval.proofs.CcSyntax.SameLemmas
pub use Rattle.cc_eval.proofs.CcSyntax.StructureLemmas
pub use Rattle.cc_eval.proofs.CcSyntax.TypeLayouts
