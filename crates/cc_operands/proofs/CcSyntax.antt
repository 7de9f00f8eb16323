-- Lemmas of cc_syntax, passed on.
pub use Rattle.cc_typed.proofs.CcSyntax.AlikeLemmas
pub use Rattle.cc_typed.proofs.CcSyntax.KindRolls
pub use Rattle.cc_typed.proofs.CcSyntax.Parts
pub use Rattle.cc_typed.proofs.CcSyntax.Prefixes
pub use Rattle.cc_typed.proofs.CcSyntax.SameLemmas
pub use Rattle.cc_typed.proofs.CcSyntax.Shapes
pub use Rattle.cc_typed.proofs.CcSyntax.SizeLemmas
pub use Rattle.cc_typed.proofs.CcSyntax.StructureLemmas
pub use Rattle.cc_typed.proofs.CcSyntax.TypeLayouts
