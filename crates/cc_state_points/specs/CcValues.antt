-- Definitions of cc_values, passed on.
pub use Rattle.cc_rules_flows.specs.CcValues.Values
