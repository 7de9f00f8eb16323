-- Definitions of cc_values, passed on.
pub use Rattle.cc_state_keys.specs.CcValues.Values
