-- Definitions of cc_lex, passed on.
pub use Rattle.cc_typed_terms.specs.CcLex.Faults
pub use Rattle.cc_typed_terms.specs.CcLex.Identifiers
pub use Rattle.cc_typed_terms.specs.CcLex.Marks
pub use Rattle.cc_typed_terms.specs.CcLex.Numbers
pub use Rattle.cc_typed_terms.specs.CcLex.Tokens
pub use Rattle.cc_typed_terms.specs.CcLex.declared
