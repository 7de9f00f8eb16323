-- Lemmas of cc_syntax, passed on.
pub use Rattle.cc_terms.proofs.CcSyntax.AlikeLemmas
pub use Rattle.cc_terms.proofs.CcSyntax.KindRolls
pub use Rattle.cc_terms.proofs.CcSyntax.Parts
pub use Rattle.cc_terms.proofs.CcSyntax.Prefixes
pub use Rattle.cc_terms.proofs.CcSyntax.SameLemmas
pub use Rattle.cc_terms.proofs.CcSyntax.StructureLemmas
pub use Rattle.cc_terms.proofs.CcSyntax.TypeLayouts
