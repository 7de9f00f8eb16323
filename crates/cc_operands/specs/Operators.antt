-- Which operator a punctuator is (C99 6.5.3.3, 6.5.5 to 6.5.14, 6.5.16.2).
use Rattle.std.specs.Prelude.{Option, Some, None}
use Rattle.cc_lex.specs.declared.token.Mark.{Mark}
use Rattle.cc_lex.specs.declared.token.Mark.TheVariants as m
use Rattle.cc_program.specs.CcNum.declared.op.BinOp.{BinOp}
use Rattle.cc_program.specs.CcNum.declared.op.BinOp.TheVariants as op
use Rattle.cc_operands.specs.declared.operator.Operator.{Operator}
use Rattle.cc_operands.specs.declared.operator.Operator.TheVariants as operator
use Rattle.cc_operands.specs.declared.operator.UnaryOperator.{UnaryOperator}
use Rattle.cc_operands.specs.declared.operator.UnaryOperator.TheVariants as unary

abbrev pub operator_of : Mark → Option Operator
operator_of m.Star = Some (operator.OfIntegers op.Mul)
operator_of m.Slash = Some (operator.OfIntegers op.Div)
operator_of m.Percent = Some (operator.OfIntegers op.Rem)
operator_of m.Amp = Some (operator.OfIntegers op.And)
operator_of m.Bar = Some (operator.OfIntegers op.Or)
operator_of m.Caret = Some (operator.OfIntegers op.Xor)
operator_of m.Shl = Some (operator.OfIntegers op.Shl)
operator_of m.Shr = Some (operator.OfIntegers op.Shr)
operator_of m.Plus = Some operator.Sum
operator_of m.Minus = Some operator.Difference
operator_of m.Lt = Some (operator.Comparison op.Lt)
operator_of m.Le = Some (operator.Comparison op.Le)
operator_of m.Gt = Some (operator.Comparison op.Gt)
operator_of m.Ge = Some (operator.Comparison op.Ge)
operator_of m.EqEq = Some (operator.Comparison op.Eq)
operator_of m.NotEq = Some (operator.Comparison op.Ne)
operator_of m.AndAnd = Some operator.Both
operator_of m.OrOr = Some operator.Either
operator_of _ = None

abbrev pub unary_operator_of : Mark → Option UnaryOperator
unary_operator_of m.Plus = Some unary.Plus
unary_operator_of m.Minus = Some unary.Minus
unary_operator_of m.Tilde = Some unary.Complement
unary_operator_of m.Bang = Some unary.Not
unary_operator_of _ = None

-- of an assignment, the operator that it applies first
abbrev pub assigns_by : Mark → Option BinOp
assigns_by m.StarAssign = Some op.Mul
assigns_by m.SlashAssign = Some op.Div
assigns_by m.PercentAssign = Some op.Rem
assigns_by m.PlusAssign = Some op.Add
assigns_by m.MinusAssign = Some op.Sub
assigns_by m.ShlAssign = Some op.Shl
assigns_by m.ShrAssign = Some op.Shr
assigns_by m.AndAssign = Some op.And
assigns_by m.XorAssign = Some op.Xor
assigns_by m.OrAssign = Some op.Or
assigns_by _ = None
