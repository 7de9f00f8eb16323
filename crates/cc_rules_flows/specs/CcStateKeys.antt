-- Definitions of cc_state_keys, passed on.
pub use Rattle.cc_state_reads.specs.CcStateKeys.Addressed
pub use Rattle.cc_state_reads.specs.CcStateKeys.Counts
pub use Rattle.cc_state_reads.specs.CcStateKeys.Keys
pub use Rattle.cc_state_reads.specs.CcStateKeys.Lists
pub use Rattle.cc_state_reads.specs.CcStateKeys.Order
pub use Rattle.cc_state_reads.specs.CcStateKeys.Paths
pub use Rattle.cc_state_reads.specs.CcStateKeys.Tracked
