-- Lemmas of cc_syntax, passed on.
pub use Rattle.cc_typed_bodies.proofs.CcSyntax.AlikeLemmas
pub use Rattle.cc_typed_bodies.proofs.CcSyntax.KindRolls
pub use Rattle.cc_typed_bodies.proofs.CcSyntax.Parts
pub use Rattle.cc_typed_bodies.proofs.CcSyntax.Prefixes
pub use Rattle.cc_typed_bodies.proofs.CcSyntax.SameLemmas
pub use Rattle.cc_typed_bodies.proofs.CcSyntax.StructureLemmas
pub use Rattle.cc_typed_bodies.proofs.CcSyntax.TypeLayouts
