-- Definitions of cc_state_values, passed on.
pub use Rattle.cc_rules_flows.specs.CcStateValues.Contexts
pub use Rattle.cc_rules_flows.specs.CcStateValues.Typed
pub use Rattle.cc_rules_flows.specs.CcStateValues.Values
pub use Rattle.cc_rules_flows.specs.CcStateValues.declared
