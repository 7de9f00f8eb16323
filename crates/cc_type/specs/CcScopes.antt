-- Definitions of cc_scopes, passed on.
pub use Rattle.cc_typed_bodies.specs.CcScopes.Definitions
pub use Rattle.cc_typed_bodies.specs.CcScopes.Linked
pub use Rattle.cc_typed_bodies.specs.CcScopes.Standings
pub use Rattle.cc_typed_bodies.specs.CcScopes.State
pub use Rattle.cc_typed_bodies.specs.CcScopes.Structures
pub use Rattle.cc_typed_bodies.specs.CcScopes.Verdicts
pub use Rattle.cc_typed_bodies.specs.CcScopes.declared
