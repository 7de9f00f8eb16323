-- Lemmas of cc_flow, passed on.
pub use Rattle.cc_rules.proofs.CcFlow.Inside
pub use Rattle.cc_rules.proofs.CcFlow.Paths
