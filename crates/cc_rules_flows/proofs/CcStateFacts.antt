-- Lemmas of cc_state_facts, passed on.
pub use Rattle.cc_state_reads.proofs.CcStateFacts.LevelBits
