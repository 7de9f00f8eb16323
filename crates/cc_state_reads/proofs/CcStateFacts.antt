-- Lemmas of cc_state_facts, passed on.
pub use Rattle.cc_state_keys.proofs.CcStateFacts.LevelBits
