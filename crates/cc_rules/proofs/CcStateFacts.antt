-- Lemmas of cc_state_facts, passed on.
pub use Rattle.cc_rules_flows.proofs.CcStateFacts.LevelBits
