-- Lemmas of cc_control, passed on.
pub use Rattle.cc_control.proofs.Begun
