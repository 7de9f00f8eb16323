-- Definitions of cc_specifiers, passed on.
pub use Rattle.cc_typed_terms.specs.CcSpecifiers.Attributes
pub use Rattle.cc_typed_terms.specs.CcSpecifiers.BasicTypes
pub use Rattle.cc_typed_terms.specs.CcSpecifiers.Bounds
pub use Rattle.cc_typed_terms.specs.CcSpecifiers.Declarators
pub use Rattle.cc_typed_terms.specs.CcSpecifiers.Derivations
pub use Rattle.cc_typed_terms.specs.CcSpecifiers.Modes
pub use Rattle.cc_typed_terms.specs.CcSpecifiers.Objects
pub use Rattle.cc_typed_terms.specs.CcSpecifiers.Parameters
pub use Rattle.cc_typed_terms.specs.CcSpecifiers.Places
pub use Rattle.cc_typed_terms.specs.CcSpecifiers.Specifiers
pub use Rattle.cc_typed_terms.specs.CcSpecifiers.Storage
pub use Rattle.cc_typed_terms.specs.CcSpecifiers.declared
