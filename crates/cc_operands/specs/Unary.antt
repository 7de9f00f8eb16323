-- Unary operators on values (C99 6.5.3.3).
use Rattle.std.specs.Prelude.{Ok, Err}
use Rattle.cc_program.specs.CcNum.declared.int_type.IntType.{IntType}
use Rattle.cc_program.specs.CcNum.declared.op.BinOp.TheVariants as op
use Rattle.cc_program.specs.CcNum.declared.op.UnOp.{UnOp}
use Rattle.cc_program.specs.CcNum.declared.op.UnOp.TheVariants as unary
use Rattle.cc_program.specs.CcNum.declared.target.Target.{Target}
use Rattle.cc_program.specs.CcNum.Promotions.{promoted}
use Rattle.cc_operands.specs.Arithmetic.{truth}
use Rattle.cc_operands.specs.Operands.{Operand, constancy, folded, converted_to, against_null, with_value}
use Rattle.cc_operands.specs.Verdicts.{Judged}
use Rattle.cc_operands.specs.declared.operator.UnaryOperator.{UnaryOperator}
use Rattle.cc_operands.specs.declared.operator.UnaryOperator.TheVariants as unary_operator
use Rattle.cc_operands.specs.declared.rule.Rule.{Rule}
use Rattle.cc_operands.specs.declared.rule.Rule.TheVariants as rule
use Rattle.cc_program.specs.declared.expr.Expr.{Un}
use Rattle.cc_typed.specs.CcSyntax.Folding.{unary_constant}
use Rattle.cc_typed.specs.CcSyntax.Operators.{unary_result}
use Rattle.cc_typed.specs.CcSyntax.Values.{ValueType, NoValue, Integer}

module _ (target : Target) where
  abbrev pub negated : UnOp → IntType → Operand → Operand
  negated o t x = folded (unary_result o t) (unary_constant target o t (constancy x)) (Un o t x.value)

  -- of an integer, which is promoted; the rule that another operand breaks
  abbrev pub integer_by : Rule → UnOp → Operand → ValueType → Judged Operand
  integer_by broken o x (Integer i) = Ok (negated o (promoted i target) (converted_to target (promoted i target) x))
  integer_by broken o x _ = Err broken

  abbrev pub plus_by : Operand → ValueType → Judged Operand
  plus_by x (Integer i) = Ok (converted_to target (promoted i target) x)
  plus_by x _ = Err rule.NoSum

  abbrev pub not_by : Operand → ValueType → Judged Operand
  not_by x (Integer i) = integer_by rule.NoScalar unary.Lnot x (Integer i)
  not_by x NoValue = Err rule.NoScalar
  not_by x _ = Ok (truth (against_null op.Eq x))

  abbrev pub unary_by : UnaryOperator → Operand → Judged Operand
  unary_by unary_operator.Plus x = plus_by x x.type
  unary_by unary_operator.Minus x = integer_by rule.NoSum unary.Neg x x.type
  unary_by unary_operator.Complement x = integer_by rule.NoInteger unary.Not x x.type
  unary_by unary_operator.Not x = not_by x x.type

  abbrev pub unary_of : UnaryOperator → Operand → Judged Operand
  unary_of o x = with_value x (unary_by o x)
