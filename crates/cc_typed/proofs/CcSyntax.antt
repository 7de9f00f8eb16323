-- Lemmas of cc_syntax, passed on.
pub use Rattle.cc_syntax.proofs.Alignment
pub use Rattle.cc_syntax.proofs.AlikeLemmas
pub use Rattle.cc_syntax.proofs.KindRolls
pub use Rattle.cc_syntax.proofs.Measure
pub use Rattle.cc_syntax.proofs.NameRules
pub use Rattle.cc_syntax.proofs.Parts
pub use Rattle.cc_syntax.proofs.Prefixes
pub use Rattle.cc_syntax.proofs.SameLemmas
pub use Rattle.cc_syntax.proofs.Shapes
pub use Rattle.cc_syntax.proofs.SizeLemmas
pub use Rattle.cc_syntax.proofs.StructureLemmas
pub use Rattle.cc_syntax.proofs.TypeLayouts
pub use Rattle.cc_syntax.proofs.Whole
