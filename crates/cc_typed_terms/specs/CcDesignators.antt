-- Definitions of cc_designators, passed on.
pub use Rattle.cc_designators.specs.Assignments
pub use Rattle.cc_designators.specs.Calls
pub use Rattle.cc_designators.specs.Casts
pub use Rattle.cc_designators.specs.Designators
pub use Rattle.cc_designators.specs.Postfix
pub use Rattle.cc_designators.specs.View
pub use Rattle.cc_designators.specs.declared
