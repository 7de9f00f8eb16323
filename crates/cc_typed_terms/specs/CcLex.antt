-- Definitions of cc_lex, passed on.
pub use Rattle.cc_scopes.specs.CcLex.Faults
pub use Rattle.cc_scopes.specs.CcLex.Identifiers
pub use Rattle.cc_scopes.specs.CcLex.Marks
pub use Rattle.cc_scopes.specs.CcLex.Numbers
pub use Rattle.cc_scopes.specs.CcLex.Tokens
pub use Rattle.cc_scopes.specs.CcLex.declared
