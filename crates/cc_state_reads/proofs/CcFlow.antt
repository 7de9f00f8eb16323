-- Lemmas of cc_flow, passed on.
pub use Rattle.cc_state_keys.proofs.CcFlow.Inside
pub use Rattle.cc_state_keys.proofs.CcFlow.Paths
