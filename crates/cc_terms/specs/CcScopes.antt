-- Definitions of cc_scopes, passed on.
pub use Rattle.cc_typed_terms.specs.CcScopes.Definitions
pub use Rattle.cc_typed_terms.specs.CcScopes.Linked
pub use Rattle.cc_typed_terms.specs.CcScopes.Standings
pub use Rattle.cc_typed_terms.specs.CcScopes.State
pub use Rattle.cc_typed_terms.specs.CcScopes.Structures
pub use Rattle.cc_typed_terms.specs.CcScopes.Verdicts
pub use Rattle.cc_typed_terms.specs.CcScopes.declared
