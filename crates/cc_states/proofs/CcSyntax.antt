-- Lemmas of cc_syntax, passed on.
pub use Rattle.cc_steps.proofs.CcSyntax.AlikeLemmas
pub use Rattle.cc_steps.proofs.CcSyntax.KindRolls
pub use Rattle.cc_steps.proofs.CcSyntax.NameRules
pub use Rattle.cc_steps.proofs.CcSyntax.Parts
pub use Rattle.cc_steps.proofs.CcSyntax.Prefixes
pub use Rattle.cc_steps.proofs.CcSyntax.SameLemmas
pub use Rattle.cc_steps.proofs.CcSyntax.StructureLemmas
