-- Definitions of cc_typed_terms, passed on.
pub use Rattle.cc_typed_bodies.specs.CcTypedTerms.Declarators
pub use Rattle.cc_typed_bodies.specs.CcTypedTerms.Devices
pub use Rattle.cc_typed_bodies.specs.CcTypedTerms.Located
pub use Rattle.cc_typed_bodies.specs.CcTypedTerms.Members
pub use Rattle.cc_typed_bodies.specs.CcTypedTerms.Names
pub use Rattle.cc_typed_bodies.specs.CcTypedTerms.Operators
pub use Rattle.cc_typed_bodies.specs.CcTypedTerms.Parameters
pub use Rattle.cc_typed_bodies.specs.CcTypedTerms.Primary
pub use Rattle.cc_typed_bodies.specs.CcTypedTerms.Sizes
pub use Rattle.cc_typed_bodies.specs.CcTypedTerms.Specifiers
pub use Rattle.cc_typed_bodies.specs.CcTypedTerms.Values
pub use Rattle.cc_typed_bodies.specs.CcTypedTerms.declared
