-- Definitions of cc_unit, passed on.
pub use Rattle.cc_typed_bodies.specs.CcUnit.Entries
pub use Rattle.cc_typed_bodies.specs.CcUnit.Mentioned
pub use Rattle.cc_typed_bodies.specs.CcUnit.Renumbered
pub use Rattle.cc_typed_bodies.specs.CcUnit.declared
