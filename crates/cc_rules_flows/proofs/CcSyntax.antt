-- Lemmas of cc_syntax, passed on.
pub use Rattle.cc_state_reads.proofs.CcSyntax.Alignment
pub use Rattle.cc_state_reads.proofs.CcSyntax.AlikeLemmas
pub use Rattle.cc_state_reads.proofs.CcSyntax.NameRules
pub use Rattle.cc_state_reads.proofs.CcSyntax.Prefixes
pub use Rattle.cc_state_reads.proofs.CcSyntax.SameLemmas
pub use Rattle.cc_state_reads.proofs.CcSyntax.Shapes
pub use Rattle.cc_state_reads.proofs.CcSyntax.StructureLemmas
pub use Rattle.cc_state_reads.proofs.CcSyntax.TypeLayouts
pub use Rattle.cc_state_reads.proofs.CcSyntax.Whole
