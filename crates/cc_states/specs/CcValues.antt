-- Definitions of cc_values, passed on.
pub use Rattle.cc_steps.specs.CcValues.Values
