-- Lemmas of cc_states, passed on.
pub use Rattle.cc_rules_flows.proofs.CcStates.GivenLemmas
pub use Rattle.cc_rules_flows.proofs.CcStates.ListLemmas
pub use Rattle.cc_rules_flows.proofs.CcStates.Options
pub use Rattle.cc_rules_flows.proofs.CcStates.SoundLemmas
pub use Rattle.cc_rules_flows.proofs.CcStates.StartLemmas
pub use Rattle.cc_rules_flows.proofs.CcStates.TurnLemmas
pub use Rattle.cc_rules_flows.proofs.CcStates.ZeroLemmas
