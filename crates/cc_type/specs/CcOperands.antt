-- Definitions of cc_operands, passed on.
pub use Rattle.cc_typed_bodies.specs.CcOperands.Arithmetic
pub use Rattle.cc_typed_bodies.specs.CcOperands.Assignments
pub use Rattle.cc_typed_bodies.specs.CcOperands.Choices
pub use Rattle.cc_typed_bodies.specs.CcOperands.Operands
pub use Rattle.cc_typed_bodies.specs.CcOperands.Operators
pub use Rattle.cc_typed_bodies.specs.CcOperands.Qualified
pub use Rattle.cc_typed_bodies.specs.CcOperands.RuleNumbers
pub use Rattle.cc_typed_bodies.specs.CcOperands.Verdicts
pub use Rattle.cc_typed_bodies.specs.CcOperands.declared
