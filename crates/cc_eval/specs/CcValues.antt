-- Definitions of cc_values, passed on.
pub use Rattle.cc_values.specs.Values
