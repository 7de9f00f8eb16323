-- Lemmas of cc_syntax, passed on.
pub use Rattle.cc_state_keys.proofs.CcSyntax.Alignment
pub use Rattle.cc_state_keys.proofs.CcSyntax.AlikeLemmas
pub use Rattle.cc_state_keys.proofs.CcSyntax.KindRolls
pub use Rattle.cc_state_keys.proofs.CcSyntax.NameRules
pub use Rattle.cc_state_keys.proofs.CcSyntax.Parts
pub use Rattle.cc_state_keys.proofs.CcSyntax.Prefixes
pub use Rattle.cc_state_keys.proofs.CcSyntax.SameLemmas
pub use Rattle.cc_state_keys.proofs.CcSyntax.Shapes
pub use Rattle.cc_state_keys.proofs.CcSyntax.StructureLemmas
pub use Rattle.cc_state_keys.proofs.CcSyntax.TypeLayouts
pub use Rattle.cc_state_keys.proofs.CcSyntax.Whole
