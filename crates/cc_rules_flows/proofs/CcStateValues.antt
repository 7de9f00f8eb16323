-- Lemmas of cc_state_values, passed on.
pub use Rattle.cc_state_reads.proofs.CcStateValues.Arms
pub use Rattle.cc_state_reads.proofs.CcStateValues.Fits
pub use Rattle.cc_state_reads.proofs.CcStateValues.Parts
pub use Rattle.cc_state_reads.proofs.CcStateValues.Rules
pub use Rattle.cc_state_reads.proofs.CcStateValues.Same
