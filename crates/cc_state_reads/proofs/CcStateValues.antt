-- Lemmas of cc_state_values, passed on.
pub use Rattle.cc_state_values.proofs.Arms
pub use Rattle.cc_state_values.proofs.Fits
pub use Rattle.cc_state_values.proofs.Parts
pub use Rattle.cc_state_values.proofs.Rules
pub use Rattle.cc_state_values.proofs.Same
