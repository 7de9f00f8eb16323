-- Definitions of cc_terms, passed on.
pub use Rattle.cc_terms.specs.Constants
pub use Rattle.cc_terms.specs.Declarators
pub use Rattle.cc_terms.specs.Expressions
pub use Rattle.cc_terms.specs.InTurn
pub use Rattle.cc_terms.specs.Meanings
pub use Rattle.cc_terms.specs.Members
pub use Rattle.cc_terms.specs.Operations
pub use Rattle.cc_terms.specs.Specifiers
pub use Rattle.cc_terms.specs.Structures
pub use Rattle.cc_terms.specs.Terms
