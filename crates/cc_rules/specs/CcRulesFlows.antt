-- Definitions of cc_rules_flows, passed on.
pub use Rattle.cc_rules_flows.specs.Acts
pub use Rattle.cc_rules_flows.specs.Flows
pub use Rattle.cc_rules_flows.specs.Here
pub use Rattle.cc_rules_flows.specs.Joins
pub use Rattle.cc_rules_flows.specs.Kept
pub use Rattle.cc_rules_flows.specs.Known
pub use Rattle.cc_rules_flows.specs.Nexts
pub use Rattle.cc_rules_flows.specs.Tests
pub use Rattle.cc_rules_flows.specs.View
pub use Rattle.cc_rules_flows.specs.Worked
pub use Rattle.cc_rules_flows.specs.declared
