-- Lemmas of cc_state_facts, passed on.
pub use Rattle.cc_rules.proofs.CcStateFacts.LevelBits
