-- Lemmas of cc_state_reads, passed on.
pub use Rattle.cc_rules_flows.proofs.CcStateReads.Joins
