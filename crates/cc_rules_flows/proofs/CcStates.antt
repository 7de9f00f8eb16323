-- Lemmas of cc_states, passed on.
pub use Rattle.cc_flow_sound.proofs.CcStates.ControlLemmas
pub use Rattle.cc_flow_sound.proofs.CcStates.GivenLemmas
pub use Rattle.cc_flow_sound.proofs.CcStates.ListLemmas
pub use Rattle.cc_flow_sound.proofs.CcStates.Options
pub use Rattle.cc_flow_sound.proofs.CcStates.SoundLemmas
pub use Rattle.cc_flow_sound.proofs.CcStates.StartLemmas
pub use Rattle.cc_flow_sound.proofs.CcStates.TurnLemmas
pub use Rattle.cc_flow_sound.proofs.CcStates.ZeroLemmas
