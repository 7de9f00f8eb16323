-- Definitions of cc_typed_terms, passed on.
pub use Rattle.cc_terms.specs.CcTypedTerms.Declarators
pub use Rattle.cc_terms.specs.CcTypedTerms.Devices
pub use Rattle.cc_terms.specs.CcTypedTerms.Located
pub use Rattle.cc_terms.specs.CcTypedTerms.Members
pub use Rattle.cc_terms.specs.CcTypedTerms.Names
pub use Rattle.cc_terms.specs.CcTypedTerms.Operators
pub use Rattle.cc_terms.specs.CcTypedTerms.Parameters
pub use Rattle.cc_terms.specs.CcTypedTerms.Primary
pub use Rattle.cc_terms.specs.CcTypedTerms.Sizes
pub use Rattle.cc_terms.specs.CcTypedTerms.Specifiers
pub use Rattle.cc_terms.specs.CcTypedTerms.Values
pub use Rattle.cc_terms.specs.CcTypedTerms.declared
