-- Lemmas of cc_steps, passed on.
pub use Rattle.cc_flow_sound.proofs.CcSteps.StartLemmas
