-- Definitions of cc_operands, passed on.
pub use Rattle.cc_scopes.specs.CcOperands.Arithmetic
pub use Rattle.cc_scopes.specs.CcOperands.Assignments
pub use Rattle.cc_scopes.specs.CcOperands.Choices
pub use Rattle.cc_scopes.specs.CcOperands.Operands
pub use Rattle.cc_scopes.specs.CcOperands.Operators
pub use Rattle.cc_scopes.specs.CcOperands.Qualified
pub use Rattle.cc_scopes.specs.CcOperands.RuleNumbers
pub use Rattle.cc_scopes.specs.CcOperands.Unary
pub use Rattle.cc_scopes.specs.CcOperands.Verdicts
pub use Rattle.cc_scopes.specs.CcOperands.View
pub use Rattle.cc_scopes.specs.CcOperands.declared
