-- Definitions of cc_state_operators, passed on.
pub use Rattle.cc_state_values.specs.CcStateOperators.Addresses
pub use Rattle.cc_state_values.specs.CcStateOperators.Domains
pub use Rattle.cc_state_values.specs.CcStateOperators.Results
pub use Rattle.cc_state_values.specs.CcStateOperators.declared
