-- Definitions of cc_specifiers, passed on.
pub use Rattle.cc_typed_bodies.specs.CcSpecifiers.Attributes
pub use Rattle.cc_typed_bodies.specs.CcSpecifiers.BasicTypes
pub use Rattle.cc_typed_bodies.specs.CcSpecifiers.Bounds
pub use Rattle.cc_typed_bodies.specs.CcSpecifiers.Declarators
pub use Rattle.cc_typed_bodies.specs.CcSpecifiers.Derivations
pub use Rattle.cc_typed_bodies.specs.CcSpecifiers.Modes
pub use Rattle.cc_typed_bodies.specs.CcSpecifiers.Objects
pub use Rattle.cc_typed_bodies.specs.CcSpecifiers.Parameters
pub use Rattle.cc_typed_bodies.specs.CcSpecifiers.Places
pub use Rattle.cc_typed_bodies.specs.CcSpecifiers.Specifiers
pub use Rattle.cc_typed_bodies.specs.CcSpecifiers.Storage
pub use Rattle.cc_typed_bodies.specs.CcSpecifiers.declared
