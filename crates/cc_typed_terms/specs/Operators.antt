-- Operators, as punctuators name them, on expressions whose parts are typed (C99 6.5).
use Rattle.std.specs.Prelude.{Bool, true, false, List, Option, Some, None, Err}
use Rattle.cc_designators.specs.Designators.{TypedExpr, IsPlace, IsIntrinsic}
use Rattle.cc_designators.specs.Postfix.{element}
use Rattle.cc_scopes.specs.CcLex.declared.token.Mark.{Mark}
use Rattle.cc_scopes.specs.CcLex.declared.token.Mark.TheVariants as m
use Rattle.cc_program.specs.CcNum.declared.target.Target.{Target}
use Rattle.cc_scopes.specs.CcOperands.Arithmetic.{binary_of}
use Rattle.cc_scopes.specs.CcOperands.Operands.{Operand}
use Rattle.cc_scopes.specs.CcOperands.Unary.{unary_of}
use Rattle.cc_scopes.specs.CcOperands.Verdicts.{Judged}
use Rattle.cc_scopes.specs.CcOperands.declared.operator.Operator.{Operator}
use Rattle.cc_scopes.specs.CcOperands.declared.operator.UnaryOperator.{UnaryOperator}
use Rattle.cc_scopes.specs.CcOperands.declared.rule.Rule.TheVariants as rule
use Rattle.cc_program.specs.declared.expr.Intr.{Intr}
use Rattle.cc_program.specs.declared.types.Structure.{Structure}
use Rattle.cc_typed_terms.specs.declared.prefix.Prefix.{Prefix}
use Rattle.cc_typed_terms.specs.declared.prefix.Prefix.TheVariants as prefix

-- what a prefix works on
abbrev pub prefix_of : Mark → Prefix
prefix_of m.Star = prefix.Star
prefix_of m.Amp = prefix.Amp
prefix_of m.PlusPlus = prefix.Step false
prefix_of m.MinusMinus = prefix.Step true
prefix_of _ = prefix.OnValue

abbrev pub is_minus : Mark → Bool
is_minus m.MinusMinus = true
is_minus _ = false

-- an intrinsic is only called
abbrev pub intrinsic_in : TypedExpr → Option Intr
intrinsic_in (IsIntrinsic i place) = Some i
intrinsic_in _ = None

-- of an array that is a place
abbrev pub element_in : TypedExpr → Operand → Judged TypedExpr
element_in (IsPlace a t) i = element a t i
element_in _ i = Err rule.Subscript

module _ (target : Target) where
  abbrev pub binary_by : List Structure → Option Operator → Operand → Operand → Judged Operand
  binary_by structures None x y = Err rule.NoInteger
  binary_by structures (Some o) x y = binary_of target structures o x y

  abbrev pub unary_by : Option UnaryOperator → Operand → Judged Operand
  unary_by None x = Err rule.NoInteger
  unary_by (Some o) x = unary_of target o x
