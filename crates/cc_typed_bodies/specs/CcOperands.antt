-- Definitions of cc_operands, passed on.
pub use Rattle.cc_terms.specs.CcOperands.Arithmetic
pub use Rattle.cc_terms.specs.CcOperands.Assignments
pub use Rattle.cc_terms.specs.CcOperands.Choices
pub use Rattle.cc_terms.specs.CcOperands.Operands
pub use Rattle.cc_terms.specs.CcOperands.Operators
pub use Rattle.cc_terms.specs.CcOperands.Qualified
pub use Rattle.cc_terms.specs.CcOperands.RuleNumbers
pub use Rattle.cc_terms.specs.CcOperands.Verdicts
pub use Rattle.cc_terms.specs.CcOperands.declared
