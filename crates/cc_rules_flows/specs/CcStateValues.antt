-- Definitions of cc_state_values, passed on.
pub use Rattle.cc_state_reads.specs.CcStateValues.Contexts
pub use Rattle.cc_state_reads.specs.CcStateValues.Typed
pub use Rattle.cc_state_reads.specs.CcStateValues.Values
pub use Rattle.cc_state_reads.specs.CcStateValues.declared
