-- Definitions of cc_state_facts, passed on.
pub use Rattle.cc_state_facts.specs.Facts
pub use Rattle.cc_state_facts.specs.Levels
pub use Rattle.cc_state_facts.specs.Orders
pub use Rattle.cc_state_facts.specs.declared
pub use Rattle.cc_state_facts.specs.laws
