-- Definitions of cc_state_facts, passed on.
pub use Rattle.cc_state_keys.specs.CcStateFacts.Facts
pub use Rattle.cc_state_keys.specs.CcStateFacts.Levels
pub use Rattle.cc_state_keys.specs.CcStateFacts.Orders
pub use Rattle.cc_state_keys.specs.CcStateFacts.declared
pub use Rattle.cc_state_keys.specs.CcStateFacts.laws
