-- Definitions of cc_state_facts, passed on.
pub use Rattle.cc_rules_flows.specs.CcStateFacts.Facts
pub use Rattle.cc_rules_flows.specs.CcStateFacts.Levels
pub use Rattle.cc_rules_flows.specs.CcStateFacts.declared
