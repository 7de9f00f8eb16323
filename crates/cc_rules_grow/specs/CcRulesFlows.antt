-- Definitions of cc_rules_flows, passed on.
pub use Rattle.cc_rules.specs.CcRulesFlows.Acts
pub use Rattle.cc_rules.specs.CcRulesFlows.Flows
pub use Rattle.cc_rules.specs.CcRulesFlows.Nexts
pub use Rattle.cc_rules.specs.CcRulesFlows.Tests
