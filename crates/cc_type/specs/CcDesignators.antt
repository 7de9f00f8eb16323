-- Definitions of cc_designators, passed on.
pub use Rattle.cc_typed_bodies.specs.CcDesignators.Assignments
pub use Rattle.cc_typed_bodies.specs.CcDesignators.Calls
pub use Rattle.cc_typed_bodies.specs.CcDesignators.Casts
pub use Rattle.cc_typed_bodies.specs.CcDesignators.Designators
pub use Rattle.cc_typed_bodies.specs.CcDesignators.Postfix
