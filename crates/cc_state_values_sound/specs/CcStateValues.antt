-- Definitions of cc_state_values, passed on.
pub use Rattle.cc_state_values.specs.Values
