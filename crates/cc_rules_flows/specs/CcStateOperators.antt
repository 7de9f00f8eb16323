-- Definitions of cc_state_operators, passed on.
pub use Rattle.cc_state_reads.specs.CcStateOperators.Addresses
pub use Rattle.cc_state_reads.specs.CcStateOperators.Domains
pub use Rattle.cc_state_reads.specs.CcStateOperators.Types
pub use Rattle.cc_state_reads.specs.CcStateOperators.declared
