-- Definitions of cc_lex, passed on.
pub use Rattle.cc_typed_bodies.specs.CcLex.Faults
pub use Rattle.cc_typed_bodies.specs.CcLex.Identifiers
pub use Rattle.cc_typed_bodies.specs.CcLex.Marks
pub use Rattle.cc_typed_bodies.specs.CcLex.Numbers
pub use Rattle.cc_typed_bodies.specs.CcLex.Tokens
pub use Rattle.cc_typed_bodies.specs.CcLex.declared
