-- Definitions of cc_scopes, passed on.
pub use Rattle.cc_scopes.specs.Definitions
pub use Rattle.cc_scopes.specs.Linked
pub use Rattle.cc_scopes.specs.Standings
pub use Rattle.cc_scopes.specs.State
pub use Rattle.cc_scopes.specs.Structures
pub use Rattle.cc_scopes.specs.Verdicts
pub use Rattle.cc_scopes.specs.View
pub use Rattle.cc_scopes.specs.declared
