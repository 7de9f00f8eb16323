-- Lemmas of cc_state_points, passed on.
pub use Rattle.cc_state_points.proofs.Sound
