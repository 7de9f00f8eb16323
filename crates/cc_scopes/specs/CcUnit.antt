-- Definitions of cc_unit, passed on.
pub use Rattle.cc_unit.specs.Entries
pub use Rattle.cc_unit.specs.Mentioned
pub use Rattle.cc_unit.specs.Renumbered
pub use Rattle.cc_unit.specs.declared
