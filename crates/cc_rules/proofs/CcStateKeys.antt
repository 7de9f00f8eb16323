-- Lemmas of cc_state_keys, passed on.
pub use Rattle.cc_rules_flows.proofs.CcStateKeys.FactCounts
pub use Rattle.cc_rules_flows.proofs.CcStateKeys.Grown
pub use Rattle.cc_rules_flows.proofs.CcStateKeys.Orders
pub use Rattle.cc_rules_flows.proofs.CcStateKeys.Typed
