-- Definitions of cc_state_keys, passed on.
pub use Rattle.cc_rules.specs.CcStateKeys.Addressed
pub use Rattle.cc_rules.specs.CcStateKeys.Keys
pub use Rattle.cc_rules.specs.CcStateKeys.Lists
pub use Rattle.cc_rules.specs.CcStateKeys.Tracked
