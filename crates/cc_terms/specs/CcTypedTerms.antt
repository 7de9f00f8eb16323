-- Definitions of cc_typed_terms, passed on.
pub use Rattle.cc_typed_terms.specs.Declarators
pub use Rattle.cc_typed_terms.specs.Devices
pub use Rattle.cc_typed_terms.specs.Located
pub use Rattle.cc_typed_terms.specs.Members
pub use Rattle.cc_typed_terms.specs.Names
pub use Rattle.cc_typed_terms.specs.Operators
pub use Rattle.cc_typed_terms.specs.Parameters
pub use Rattle.cc_typed_terms.specs.Primary
pub use Rattle.cc_typed_terms.specs.Sizes
pub use Rattle.cc_typed_terms.specs.Specifiers
pub use Rattle.cc_typed_terms.specs.Values
pub use Rattle.cc_typed_terms.specs.declared
