-- Definitions of cc_values, passed on.
pub use Rattle.cc_state_values.specs.CcValues.Values
