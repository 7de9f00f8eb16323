-- Lemmas of cc_syntax, passed on.
pub use Rattle.cc_scopes.proofs.CcSyntax.AlikeLemmas
pub use Rattle.cc_scopes.proofs.CcSyntax.KindRolls
pub use Rattle.cc_scopes.proofs.CcSyntax.Parts
pub use Rattle.cc_scopes.proofs.CcSyntax.Prefixes
pub use Rattle.cc_scopes.proofs.CcSyntax.SameLemmas
pub use Rattle.cc_scopes.proofs.CcSyntax.SizeLemmas
pub use Rattle.cc_scopes.proofs.CcSyntax.StructureLemmas
pub use Rattle.cc_scopes.proofs.CcSyntax.TypeLayouts
