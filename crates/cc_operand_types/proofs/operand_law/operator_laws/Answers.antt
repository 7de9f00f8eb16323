use Rattle.cc_operand_types.proofs.Choices.{choose_typed, comma_typed, condition}
use Rattle.cc_operand_types.proofs.Literals.{number_fits, character_fits}
use Rattle.cc_operand_types.proofs.Nulls.{null_typed}
use Rattle.cc_operand_types.proofs.Operands.{any_type, as_constant, cast_typed, converted_typed, integer_as}
use Rattle.cc_operand_types.proofs.Pointers.{binary_typed, unary_typed}
use Rattle.cc_operand_types.proofs.operand_law.operator_laws.Goals as goal

pub returns : goal.returns
returns c = record {
  types = λ p locals x h e. any_type p locals x h e;
  integers = λ p locals x t h e. integer_as p locals x t h e;
  scalars = λ p locals x h e. condition p locals x h e;
  numbers = λ p n suffix h. number_fits p.target n suffix h;
  characters = λ p byte. character_fits p.target byte;
  constants = λ p locals n t h. as_constant p locals n t h;
  casts = λ p locals t s x h e. ((cast_typed p locals t s x (integer_as p locals x s h e)).operand, (cast_typed p locals t s x (integer_as p locals x s h e)).type);
  conversions = λ p locals t s x h e. ((converted_typed p locals t s x h e).operand, (converted_typed p locals t s x h e).type);
  nulls = λ p locals t h k. null_typed p locals t h k;
  unary = λ p locals o x r h e. unary_typed p locals o x r h e;
  binary = λ p locals mark o m x y r h k e. binary_typed p locals mark o m x y r h k e;
  choices = λ p locals c x y r h k l e. choose_typed p locals c x y r h k l e;
  commas = λ p locals x y r h k e. comma_typed p locals x y r h k e;
}
