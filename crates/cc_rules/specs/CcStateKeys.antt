-- Definitions of cc_state_keys, passed on.
pub use Rattle.cc_rules_flows.specs.CcStateKeys.Addressed
pub use Rattle.cc_rules_flows.specs.CcStateKeys.Counts
pub use Rattle.cc_rules_flows.specs.CcStateKeys.Keys
pub use Rattle.cc_rules_flows.specs.CcStateKeys.Lists
pub use Rattle.cc_rules_flows.specs.CcStateKeys.Order
pub use Rattle.cc_rules_flows.specs.CcStateKeys.Paths
pub use Rattle.cc_rules_flows.specs.CcStateKeys.Tracked
