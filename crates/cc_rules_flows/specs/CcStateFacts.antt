-- Definitions of cc_state_facts, passed on.
pub use Rattle.cc_state_reads.specs.CcStateFacts.Facts
pub use Rattle.cc_state_reads.specs.CcStateFacts.Levels
pub use Rattle.cc_state_reads.specs.CcStateFacts.Orders
pub use Rattle.cc_state_reads.specs.CcStateFacts.declared
pub use Rattle.cc_state_reads.specs.CcStateFacts.laws
