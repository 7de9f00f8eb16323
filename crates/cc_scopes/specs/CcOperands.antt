-- Definitions of cc_operands, passed on.
pub use Rattle.cc_operands.specs.Arithmetic
pub use Rattle.cc_operands.specs.Assignments
pub use Rattle.cc_operands.specs.Choices
pub use Rattle.cc_operands.specs.Operands
pub use Rattle.cc_operands.specs.Operators
pub use Rattle.cc_operands.specs.Qualified
pub use Rattle.cc_operands.specs.RuleNumbers
pub use Rattle.cc_operands.specs.Unary
pub use Rattle.cc_operands.specs.Verdicts
pub use Rattle.cc_operands.specs.View
pub use Rattle.cc_operands.specs.declared
