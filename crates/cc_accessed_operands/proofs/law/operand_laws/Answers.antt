use Rattle.cc_accessed_operands.proofs.Assignments.{assigned_keeps}
use Rattle.cc_accessed_operands.proofs.Choices.{choose_keeps, comma_keeps}
use Rattle.cc_accessed_operands.proofs.Conversions.{converted_keeps}
use Rattle.cc_accessed_operands.proofs.Operators.{unary_keeps, binary_keeps}
use Rattle.cc_accessed_operands.proofs.law.operand_laws.Goals as goal

pub returns : goal.returns
returns c = record {
  conversions = λ target t x. converted_keeps target t x;
  unary = λ target o x r h e. unary_keeps target o x r h e;
  binary = λ target structures o x y r h k e. binary_keeps target structures o x y r h k e;
  choices = λ target c x y r hc hx hy e. choose_keeps target c x y r hc hx hy e;
  commas = λ x y r e. comma_keeps x y r e;
  assigned = λ target to x r e. assigned_keeps target to x r e;
}
