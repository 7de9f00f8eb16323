use Rattle.cc_folded_operands.proofs.Assignments.{assigned_folded}
use Rattle.cc_folded_operands.proofs.Choices.{choose_folded, comma_folded}
use Rattle.cc_folded_operands.proofs.Conversions.{converted_folded}
use Rattle.cc_folded_operands.proofs.Opened.{constant_operand}
use Rattle.cc_folded_operands.proofs.Operators.{unary_folded, binary_folded}
use Rattle.cc_folded_operands.proofs.law.operand_laws.Goals as goal

pub returns : goal.returns
returns c = record {
  constants = λ target n t. constant_operand target n t;
  conversions = λ target t x h. converted_folded target t x h;
  unary = λ target o x r h e. unary_folded target o x r h e;
  binary = λ target structures o x y r h k e. binary_folded target structures o x y r h k e;
  choices = λ target c x y r hc hx hy e. choose_folded target c x y r hc hx hy e;
  commas = λ target x y r h k e. comma_folded target x y r h k e;
  assigned = λ target to x r h e. assigned_folded target to x r h e;
}
