-- Definitions of cc_flow, passed on.
pub use Rattle.cc_rules_flows.specs.CcFlow.Laws
pub use Rattle.cc_rules_flows.specs.CcFlow.Next
pub use Rattle.cc_rules_flows.specs.CcFlow.Points
pub use Rattle.cc_rules_flows.specs.CcFlow.View
pub use Rattle.cc_rules_flows.specs.CcFlow.declared
