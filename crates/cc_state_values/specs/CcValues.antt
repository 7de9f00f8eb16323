-- Definitions of cc_values, passed on.
pub use Rattle.cc_state_operators.specs.CcValues.Values
