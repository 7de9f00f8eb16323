-- Lemmas of cc_state_values, passed on.
pub use Rattle.cc_rules_flows.proofs.CcStateValues.Arms
pub use Rattle.cc_rules_flows.proofs.CcStateValues.Parts
