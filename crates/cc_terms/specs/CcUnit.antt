-- Definitions of cc_unit, passed on.
pub use Rattle.cc_typed_terms.specs.CcUnit.Entries
pub use Rattle.cc_typed_terms.specs.CcUnit.Mentioned
pub use Rattle.cc_typed_terms.specs.CcUnit.Renumbered
pub use Rattle.cc_typed_terms.specs.CcUnit.declared
