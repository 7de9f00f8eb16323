-- Definitions of cc_terms, passed on.
pub use Rattle.cc_typed_bodies.specs.CcTerms.Constants
pub use Rattle.cc_typed_bodies.specs.CcTerms.Declarators
pub use Rattle.cc_typed_bodies.specs.CcTerms.Expressions
pub use Rattle.cc_typed_bodies.specs.CcTerms.InTurn
pub use Rattle.cc_typed_bodies.specs.CcTerms.Meanings
pub use Rattle.cc_typed_bodies.specs.CcTerms.Members
pub use Rattle.cc_typed_bodies.specs.CcTerms.Operations
pub use Rattle.cc_typed_bodies.specs.CcTerms.Specifiers
pub use Rattle.cc_typed_bodies.specs.CcTerms.Structures
pub use Rattle.cc_typed_bodies.specs.CcTerms.Terms
