-- Definitions of cc_state_keys, passed on.
pub use Rattle.cc_state_keys.specs.Addressed
pub use Rattle.cc_state_keys.specs.Counts
pub use Rattle.cc_state_keys.specs.Keys
pub use Rattle.cc_state_keys.specs.Lists
pub use Rattle.cc_state_keys.specs.Order
pub use Rattle.cc_state_keys.specs.Paths
pub use Rattle.cc_state_keys.specs.Tracked
