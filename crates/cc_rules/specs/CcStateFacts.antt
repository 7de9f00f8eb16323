-- Definitions of cc_state_facts, passed on.
pub use Rattle.cc_rules_flows.specs.CcStateFacts.Facts
pub use Rattle.cc_rules_flows.specs.CcStateFacts.Levels
pub use Rattle.cc_rules_flows.specs.CcStateFacts.Orders
pub use Rattle.cc_rules_flows.specs.CcStateFacts.declared
pub use Rattle.cc_rules_flows.specs.CcStateFacts.laws
