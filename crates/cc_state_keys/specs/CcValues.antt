-- Definitions of cc_values, passed on.
pub use Rattle.cc_eval.specs.CcValues.Values
