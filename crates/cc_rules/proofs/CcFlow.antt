-- Lemmas of cc_flow, passed on.
pub use Rattle.cc_rules_flows.proofs.CcFlow.Inside
pub use Rattle.cc_rules_flows.proofs.CcFlow.Paths
pub use Rattle.cc_rules_flows.proofs.CcFlow.Tests
