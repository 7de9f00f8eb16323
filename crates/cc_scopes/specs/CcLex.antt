-- Definitions of cc_lex, passed on.
pub use Rattle.cc_operands.specs.CcLex.Faults
pub use Rattle.cc_operands.specs.CcLex.Identifiers
pub use Rattle.cc_operands.specs.CcLex.Marks
pub use Rattle.cc_operands.specs.CcLex.Numbers
pub use Rattle.cc_operands.specs.CcLex.Tokens
pub use Rattle.cc_operands.specs.CcLex.declared
