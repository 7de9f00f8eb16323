-- Definitions of cc_typed, passed on.
pub use Rattle.cc_state_reads.specs.CcTyped.View
