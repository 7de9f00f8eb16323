-- Lemmas of cc_control, passed on.
pub use Rattle.cc_steps.proofs.CcControl.Begun
