-- Lemmas of cc_states, passed on.
pub use Rattle.cc_rules.proofs.CcStates.GivenLemmas
pub use Rattle.cc_rules.proofs.CcStates.ListLemmas
pub use Rattle.cc_rules.proofs.CcStates.Options
pub use Rattle.cc_rules.proofs.CcStates.SoundLemmas
pub use Rattle.cc_rules.proofs.CcStates.StartLemmas
pub use Rattle.cc_rules.proofs.CcStates.TurnLemmas
pub use Rattle.cc_rules.proofs.CcStates.ZeroLemmas
