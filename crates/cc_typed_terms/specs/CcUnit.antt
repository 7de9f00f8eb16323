-- Definitions of cc_unit, passed on.
pub use Rattle.cc_scopes.specs.CcUnit.Entries
pub use Rattle.cc_scopes.specs.CcUnit.Mentioned
pub use Rattle.cc_scopes.specs.CcUnit.Renumbered
pub use Rattle.cc_scopes.specs.CcUnit.declared
