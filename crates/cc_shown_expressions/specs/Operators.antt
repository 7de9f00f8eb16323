-- Which operator of the rules is that of an operation in a program, and when two operands may be compared although one is a
-- null constant.
use Rattle.std.specs.Prelude.{◌≡◌, true}
use Rattle.cc_program.specs.CcNum.declared.op.BinOp.{BinOp}
use Rattle.cc_program.specs.CcNum.declared.op.BinOp.TheVariants as op
use Rattle.cc_program.specs.CcNum.declared.op.UnOp.{UnOp}
use Rattle.cc_program.specs.CcNum.declared.op.UnOp.TheVariants as un
use Rattle.cc_terms.specs.CcOperands.Operands.{Operand, is_null_constant, null_of}
use Rattle.cc_terms.specs.CcOperands.declared.operator.Operator.{Operator}
use Rattle.cc_terms.specs.CcOperands.declared.operator.Operator.TheVariants as operator
use Rattle.cc_terms.specs.CcOperands.declared.operator.UnaryOperator.{UnaryOperator}
use Rattle.cc_terms.specs.CcOperands.declared.operator.UnaryOperator.TheVariants as unary_operator

abbrev pub unary_for : UnOp → UnaryOperator
unary_for un.Neg = unary_operator.Minus
unary_for un.Not = unary_operator.Complement
unary_for un.Lnot = unary_operator.Not

abbrev pub operator_for : BinOp → Operator
operator_for op.Add = operator.Sum
operator_for op.Sub = operator.Difference
operator_for op.Mul = operator.OfIntegers op.Mul
operator_for op.Div = operator.OfIntegers op.Div
operator_for op.Rem = operator.OfIntegers op.Rem
operator_for op.And = operator.OfIntegers op.And
operator_for op.Or = operator.OfIntegers op.Or
operator_for op.Xor = operator.OfIntegers op.Xor
operator_for op.Shl = operator.OfIntegers op.Shl
operator_for op.Shr = operator.OfIntegers op.Shr
operator_for op.Lt = operator.Comparison op.Lt
operator_for op.Le = operator.Comparison op.Le
operator_for op.Gt = operator.Comparison op.Gt
operator_for op.Ge = operator.Comparison op.Ge
operator_for op.Eq = operator.Comparison op.Eq
operator_for op.Ne = operator.Comparison op.Ne

-- a null constant is the null that the other pointer is compared with
pub record NullsAgree (x y : Operand) : Type 0 where
  pub right : is_null_constant y ≡ true → y.value ≡ null_of x.type
  pub left : is_null_constant x ≡ true → x.value ≡ null_of y.type
