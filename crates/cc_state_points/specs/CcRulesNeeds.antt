-- Definitions of cc_rules_needs, passed on.
pub use Rattle.cc_rules_flows.specs.CcRulesNeeds.Flowing
pub use Rattle.cc_rules_flows.specs.CcRulesNeeds.Needs
pub use Rattle.cc_rules_flows.specs.CcRulesNeeds.Points
pub use Rattle.cc_rules_flows.specs.CcRulesNeeds.declared
