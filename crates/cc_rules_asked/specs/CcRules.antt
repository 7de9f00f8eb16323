-- Definitions of cc_rules, passed on.
pub use Rattle.cc_rules.specs.Broken
pub use Rattle.cc_rules.specs.Constraints
pub use Rattle.cc_rules.specs.Rules
