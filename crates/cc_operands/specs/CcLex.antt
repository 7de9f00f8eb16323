-- Definitions of cc_lex, passed on.
pub use Rattle.cc_lex.specs.Faults
pub use Rattle.cc_lex.specs.Identifiers
pub use Rattle.cc_lex.specs.Marks
pub use Rattle.cc_lex.specs.Numbers
pub use Rattle.cc_lex.specs.Tokens
pub use Rattle.cc_lex.specs.declared
