-- Lemmas of cc_state_keys, passed on.
pub use Rattle.cc_state_reads.proofs.CcStateKeys.FactCounts
pub use Rattle.cc_state_reads.proofs.CcStateKeys.Grown
pub use Rattle.cc_state_reads.proofs.CcStateKeys.Orders
pub use Rattle.cc_state_reads.proofs.CcStateKeys.Typed
