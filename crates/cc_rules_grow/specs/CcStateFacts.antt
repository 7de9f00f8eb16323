-- Definitions of cc_state_facts, passed on.
pub use Rattle.cc_rules.specs.CcStateFacts.Facts
pub use Rattle.cc_rules.specs.CcStateFacts.Levels
pub use Rattle.cc_rules.specs.CcStateFacts.Orders
pub use Rattle.cc_rules.specs.CcStateFacts.declared
pub use Rattle.cc_rules.specs.CcStateFacts.laws
