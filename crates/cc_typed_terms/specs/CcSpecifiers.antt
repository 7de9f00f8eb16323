-- Definitions of cc_specifiers, passed on.
pub use Rattle.cc_specifiers.specs.Attributes
pub use Rattle.cc_specifiers.specs.BasicTypes
pub use Rattle.cc_specifiers.specs.Bounds
pub use Rattle.cc_specifiers.specs.Declarators
pub use Rattle.cc_specifiers.specs.Derivations
pub use Rattle.cc_specifiers.specs.Modes
pub use Rattle.cc_specifiers.specs.Objects
pub use Rattle.cc_specifiers.specs.Parameters
pub use Rattle.cc_specifiers.specs.Places
pub use Rattle.cc_specifiers.specs.Specifiers
pub use Rattle.cc_specifiers.specs.Storage
pub use Rattle.cc_specifiers.specs.declared
