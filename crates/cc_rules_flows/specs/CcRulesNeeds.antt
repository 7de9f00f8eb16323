-- Definitions of cc_rules_needs, passed on.
pub use Rattle.cc_rules_needs.specs.Flowing
pub use Rattle.cc_rules_needs.specs.Needs
pub use Rattle.cc_rules_needs.specs.Points
pub use Rattle.cc_rules_needs.specs.Raised
pub use Rattle.cc_rules_needs.specs.declared
