-- Definitions of cc_state_operators, passed on.
pub use Rattle.cc_rules_flows.specs.CcStateOperators.Addresses
pub use Rattle.cc_rules_flows.specs.CcStateOperators.Domains
