-- Assignment, and what converts as if by it: arguments, results, first values (C99 6.5.16, 6.5.2.2, 6.5.2.4, 6.5.3.1).
-- What a place takes that is written is None where it is const or has no scalar type.
use Rattle.std.specs.Prelude.{Bool, List, Option, Some, None, Ok, Err, if◌then◌else◌}
use Rattle.cc_program.specs.CcNum.declared.int_type.IntType.{IntType}
use Rattle.cc_program.specs.CcNum.declared.int_type.IntType.TheVariants as int
use Rattle.cc_program.specs.CcNum.declared.op.BinOp.{BinOp}
use Rattle.cc_program.specs.CcNum.declared.op.BinOp.TheVariants as op
use Rattle.cc_program.specs.CcNum.declared.target.Target.{Target}
use Rattle.cc_operands.specs.Arithmetic.{working_type, second_type, truth}
use Rattle.cc_operands.specs.Operands.{Operand, operand, cast_to, converted_to, is_null_constant, null_of, against_null, with_value, no_structure}
use Rattle.cc_operands.specs.Verdicts.{Judged, must, judge_then}
use Rattle.cc_operands.specs.declared.rule.Rule.{Rule}
use Rattle.cc_operands.specs.declared.rule.Rule.TheVariants as rule
use Rattle.cc_program.specs.declared.expr.Expr.{Assign, Change, After}
use Rattle.cc_program.specs.declared.expr.Place.{Place}
use Rattle.cc_program.specs.declared.types.Structure.{Structure}
use Rattle.cc_typed.specs.CcSyntax.Operators.{points_to_object, is_integer, is_additive}
use Rattle.cc_typed.specs.CcSyntax.SameTypes.{same_int}
use Rattle.cc_typed.specs.CcSyntax.Values.{ValueType, NoValue, Integer, is_assignable}

-- a null constant, or a pointer to the same type that loses no qualifier
abbrev pub assigned_pointer : ValueType → Operand → Judged Operand
assigned_pointer to x = if is_null_constant x then Ok (operand (null_of to) to) else must (is_assignable to x.type) rule.NotAssignable (Ok (operand x.value to))

-- what another operand than an integer breaks
abbrev pub no_operand : BinOp → Rule
no_operand o = if is_additive o then rule.NoSum else rule.NoInteger

abbrev pub changed_pointer : List Structure → BinOp → Place → ValueType → Operand → ValueType → Judged Operand
changed_pointer structures o a to x (Integer j) =
    must (is_additive o) rule.NoInteger (must (points_to_object structures to) rule.NoSum (Ok (operand (Change a o j x.value) to)))
changed_pointer structures o a to x _ = Err (no_operand o)

module _ (target : Target) where
  -- a pointer is converted to _Bool as it is compared with a null (6.3.1.2)
  abbrev pub truth_of_pointer : Operand → Operand
  truth_of_pointer x = cast_to target int.Bool (truth (against_null op.Ne x))

  abbrev pub assigned_integer : IntType → Operand → ValueType → Judged Operand
  assigned_integer t x (Integer s) = Ok (converted_to target t x)
  assigned_integer t x NoValue = Err rule.VoidUsed
  assigned_integer t x _ = must (same_int t int.Bool) rule.NotAssignable (Ok (truth_of_pointer x))

  abbrev pub assigned_by : Operand → ValueType → Judged Operand
  assigned_by x (Integer t) = assigned_integer t x x.type
  assigned_by x NoValue = Err rule.NotAssignable
  assigned_by x to = with_value x (assigned_pointer to x)

  -- x as it is assigned to what has such a type (6.5.16.1, 1)
  abbrev pub assigned : ValueType → Operand → Judged Operand
  assigned to x = no_structure x (assigned_by x to)

  -- ---- `a = b`: a is a place of scalar type that is not const (6.5.16, 2)

  abbrev pub stored : Place → ValueType → Operand → Judged Operand
  stored a to x = judge_then (assigned to x) (λ y. Ok (operand (Assign a y.value) to))

  abbrev pub stored_at : Place → Option ValueType → Operand → Judged Operand
  stored_at a None x = Err rule.NotModifiable
  stored_at a (Some to) x = stored a to x

  -- ---- `a op= b`, `++a`, `--a`: of two integers, or of a pointer to an object and an integer (6.5.16.2)

  abbrev pub changed_integer : BinOp → Place → IntType → Operand → ValueType → Judged Operand
  changed_integer o a s x (Integer j) = Ok (operand (Change a o (working_type target o s j) (converted_to target (second_type target o s j) x).value) (Integer s))
  changed_integer o a s x _ = Err (no_operand o)

  abbrev pub changed_by : List Structure → BinOp → Place → Operand → ValueType → Judged Operand
  changed_by structures o a x (Integer s) = changed_integer o a s x x.type
  changed_by structures o a x NoValue = Err rule.NotModifiable
  changed_by structures o a x to = changed_pointer structures o a to x x.type

  abbrev pub changed_to : List Structure → BinOp → Place → Operand → Option ValueType → Judged Operand
  changed_to structures o a x None = Err rule.NotModifiable
  changed_to structures o a x (Some to) = changed_by structures o a x to

  abbrev pub changed_at : List Structure → BinOp → Place → Operand → Option ValueType → Judged Operand
  changed_at structures o a x to = with_value x (changed_to structures o a x to)

-- ---- `a++`, `a--` (6.5.2.4)

abbrev pub stepped_at : List Structure → Bool → Place → Option ValueType → Judged Operand
stepped_at structures down a None = Err rule.NotModifiable
stepped_at structures down a (Some to) = if is_integer to then Ok (operand (After a down) to) else must (points_to_object structures to) rule.NoSum (Ok (operand (After a down) to))
