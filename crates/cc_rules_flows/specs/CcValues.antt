-- Definitions of cc_values, passed on.
pub use Rattle.cc_state_reads.specs.CcValues.Values
