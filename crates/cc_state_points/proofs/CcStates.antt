-- Lemmas of cc_states, passed on.
pub use Rattle.cc_rules_flows.proofs.CcStates.SoundLemmas
