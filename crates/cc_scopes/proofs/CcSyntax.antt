-- Lemmas of cc_syntax, passed on.
pub use Rattle.cc_operands.proofs.CcSyntax.AlikeLemmas
pub use Rattle.cc_operands.proofs.CcSyntax.KindRolls
pub use Rattle.cc_operands.proofs.CcSyntax.Parts
pub use Rattle.cc_operands.proofs.CcSyntax.Prefixes
pub use Rattle.cc_operands.proofs.CcSyntax.SameLemmas
pub use Rattle.cc_operands.proofs.CcSyntax.SizeLemmas
pub use Rattle.cc_operands.proofs.CcSyntax.StructureLemmas
pub use Rattle.cc_operands.proofs.CcSyntax.TypeLayouts
