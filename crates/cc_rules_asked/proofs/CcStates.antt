-- Lemmas of cc_states, passed on.
pub use Rattle.cc_rules.proofs.CcStates.StartLemmas
