-- Definitions of cc_rules_needs, passed on.
pub use Rattle.cc_rules.specs.CcRulesNeeds.Flowing
pub use Rattle.cc_rules.specs.CcRulesNeeds.Needs
pub use Rattle.cc_rules.specs.CcRulesNeeds.Points
pub use Rattle.cc_rules.specs.CcRulesNeeds.Raised
pub use Rattle.cc_rules.specs.CcRulesNeeds.declared
