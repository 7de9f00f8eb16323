-- Lemmas of cc_steps, passed on.
pub use Rattle.cc_states.proofs.CcSteps.ScalarPlaces
