-- Lemmas of cc_state_reads, passed on.
pub use Rattle.cc_state_reads.proofs.Joins
