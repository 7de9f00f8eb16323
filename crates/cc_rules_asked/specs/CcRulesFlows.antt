-- Definitions of cc_rules_flows, passed on.
pub use Rattle.cc_rules.specs.CcRulesFlows.Acts
pub use Rattle.cc_rules.specs.CcRulesFlows.Flows
pub use Rattle.cc_rules.specs.CcRulesFlows.Here
pub use Rattle.cc_rules.specs.CcRulesFlows.Joins
pub use Rattle.cc_rules.specs.CcRulesFlows.Kept
pub use Rattle.cc_rules.specs.CcRulesFlows.Known
pub use Rattle.cc_rules.specs.CcRulesFlows.Nexts
pub use Rattle.cc_rules.specs.CcRulesFlows.Tests
pub use Rattle.cc_rules.specs.CcRulesFlows.View
pub use Rattle.cc_rules.specs.CcRulesFlows.Worked
pub use Rattle.cc_rules.specs.CcRulesFlows.declared
