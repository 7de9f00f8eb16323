-- Binary operators on values (C99 6.5.5 to 6.5.14).
use Rattle.std.specs.Prelude.{Bool, true, false, ◌&&◌, List, Ok, Err, if◌then◌else◌}
use Rattle.cc_program.specs.CcNum.declared.int_type.IntType.{IntType}
use Rattle.cc_program.specs.CcNum.declared.int_type.IntType.TheVariants as int
use Rattle.cc_program.specs.CcNum.declared.op.BinOp.{BinOp}
use Rattle.cc_program.specs.CcNum.declared.op.BinOp.TheVariants as op
use Rattle.cc_program.specs.CcNum.declared.target.Target.{Target}
use Rattle.cc_program.specs.CcNum.Promotions.{promoted, usual_of}
use Rattle.cc_program.specs.CcNum.Results.{is_shift}
use Rattle.cc_operands.specs.Operands.{Operand, operand, constancy, folded, converted_to, is_pointer, is_null_constant, null_of, against_null, with_value}
use Rattle.cc_operands.specs.Verdicts.{Judged, must}
use Rattle.cc_operands.specs.declared.operator.Operator.{Operator}
use Rattle.cc_operands.specs.declared.operator.Operator.TheVariants as operator
use Rattle.cc_operands.specs.declared.rule.Rule.TheVariants as rule
use Rattle.cc_program.specs.declared.expr.Expr.{Expr, Bin, Move, Gap, Compare, Both, Either}
use Rattle.cc_program.specs.declared.types.Structure.{Structure}
use Rattle.cc_typed.specs.CcSyntax.Folding.{binary_constant, both_constant, either_constant}
use Rattle.cc_typed.specs.CcSyntax.Operators.{binary_result, difference_type, has_difference, points_to_object}
use Rattle.cc_typed.specs.CcSyntax.Values.{ValueType, Integer, ToFunction, is_scalar, point_alike}

abbrev pub truth : Expr → Operand
truth e = operand e (Integer int.Int)

abbrev pub is_equality : BinOp → Bool
is_equality op.Eq = true
is_equality op.Ne = true
is_equality _ = false

-- ---- `&&` and `||` (6.5.13, 6.5.14)

abbrev pub both : Operand → Operand → Operand
both x y = folded int.Int (both_constant (constancy x) (constancy y)) (Both x.value y.value)

abbrev pub either : Operand → Operand → Operand
either x y = folded int.Int (either_constant (constancy x) (constancy y)) (Either x.value y.value)

abbrev pub scalars : Operand → Operand → Operand → Judged Operand
scalars x y whole = must (is_scalar x.type && is_scalar y.type) rule.NoScalar (Ok whole)

-- a pointer and a null constant
abbrev pub is_null_beside : BinOp → Operand → Operand → Bool
is_null_beside o x y = is_equality o && (is_pointer x.type && is_null_constant y)

abbrev pub pointers_compared : BinOp → Operand → Operand → Judged Operand
pointers_compared o x y =
    if is_null_beside o x y then Ok (truth (against_null o x))
    else (if is_null_beside o y x then Ok (truth (Compare o (null_of y.type) y.value))
    else must (point_alike x.type y.type) rule.NoComparison (Ok (truth (Compare o x.value y.value))))

abbrev pub moved : List Structure → Bool → Operand → Operand → Judged Operand
moved structures back x y = must (points_to_object structures x.type) rule.NoSum (Ok (operand (Move x.value y.value back) x.type))

module _ (target : Target) where
  -- ---- two integers (6.3.1.8)

  -- the type in which an operator works: a shift's is that of its first operand (6.5.7, 3)
  abbrev pub working_type : BinOp → IntType → IntType → IntType
  working_type o i j = if is_shift o then promoted i target else usual_of i j target

  abbrev pub second_type : BinOp → IntType → IntType → IntType
  second_type o i j = if is_shift o then promoted j target else usual_of i j target

  abbrev pub worked : BinOp → IntType → Operand → Operand → Operand
  worked o t x y = folded (binary_result o t) (binary_constant target o t (constancy x) (constancy y)) (Bin o t x.value y.value)

  abbrev pub arithmetic : BinOp → IntType → IntType → Operand → Operand → Operand
  arithmetic o i j x y = worked o (working_type o i j) (converted_to target (working_type o i j) x) (converted_to target (second_type o i j) y)

  abbrev pub integers_by : BinOp → Operand → Operand → ValueType → ValueType → Judged Operand
  integers_by o x y (Integer i) (Integer j) = Ok (arithmetic o i j x y)
  integers_by o x y _ _ = Err rule.NoInteger

  abbrev pub integers : BinOp → Operand → Operand → Judged Operand
  integers o x y = integers_by o x y x.type y.type

  -- ---- sums and differences (6.5.6): of a pointer, which stands first, to an object

  abbrev pub sum_by : List Structure → Operand → Operand → ValueType → ValueType → Judged Operand
  sum_by structures x y (Integer i) (Integer j) = Ok (arithmetic op.Add i j x y)
  sum_by structures x y _ (Integer j) = moved structures false x y
  sum_by structures x y _ _ = Err rule.NoSum

  abbrev pub sum : List Structure → Operand → Operand → Judged Operand
  sum structures x y = sum_by structures x y x.type y.type

  abbrev pub gap : List Structure → Operand → Operand → Judged Operand
  gap structures x y =
      must (point_alike x.type y.type && has_difference structures x.type) rule.NoSum (Ok (operand (Gap x.value y.value) (Integer (difference_type target))))

  abbrev pub difference_by : List Structure → Operand → Operand → ValueType → ValueType → Judged Operand
  difference_by structures x y (Integer i) (Integer j) = Ok (arithmetic op.Sub i j x y)
  difference_by structures x y _ (Integer j) = moved structures true x y
  difference_by structures x y _ _ = gap structures x y

  abbrev pub difference : List Structure → Operand → Operand → Judged Operand
  difference structures x y = difference_by structures x y x.type y.type

  -- ---- comparisons (6.5.8, 6.5.9)

  abbrev pub compared_by : BinOp → Operand → Operand → ValueType → ValueType → Judged Operand
  compared_by o x y (Integer i) (Integer j) = Ok (arithmetic o i j x y)
  compared_by o x y _ _ = pointers_compared o x y

  abbrev pub compared : BinOp → Operand → Operand → Judged Operand
  compared o x y = compared_by o x y x.type y.type

  -- ---- a binary operator

  abbrev pub binary_by : List Structure → Operator → Operand → Operand → Judged Operand
  binary_by structures (operator.OfIntegers o) x y = integers o x y
  binary_by structures operator.Sum x y = sum structures x y
  binary_by structures operator.Difference x y = difference structures x y
  binary_by structures (operator.Comparison o) x y = compared o x y
  binary_by structures operator.Both x y = scalars x y (both x y)
  binary_by structures operator.Either x y = scalars x y (either x y)

  abbrev pub binary_of : List Structure → Operator → Operand → Operand → Judged Operand
  binary_of structures o x y = with_value x (with_value y (binary_by structures o x y))
