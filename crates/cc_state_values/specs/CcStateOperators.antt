-- Definitions of cc_state_operators, passed on.
pub use Rattle.cc_state_operators.specs.Addresses
pub use Rattle.cc_state_operators.specs.Domains
pub use Rattle.cc_state_operators.specs.Operands
pub use Rattle.cc_state_operators.specs.Results
pub use Rattle.cc_state_operators.specs.Types
pub use Rattle.cc_state_operators.specs.declared
