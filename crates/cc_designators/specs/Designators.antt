-- What an expression designates, and the value that it has (C99 6.3.2.1).
use Rattle.std.specs.Prelude.{ℕ, ℤ, pos, Bool, Ok, Err}
use Rattle.cc_program.specs.CcNum.declared.int_type.IntType.TheVariants as int
use Rattle.cc_program.specs.declared.expr.Expr.{Const, Null, Load, AddrOf}
use Rattle.cc_program.specs.declared.expr.Intr.{Intr}
use Rattle.cc_program.specs.declared.expr.Place.{Place, Element}
use Rattle.cc_program.specs.declared.types.CType.{CType}
use Rattle.cc_program.specs.declared.types.Shape.{Shape, out-Shape}
use Rattle.cc_program.specs.declared.types.Shape.TheOpen as shape
use Rattle.cc_program.specs.declared.types.Sig.{Sig}
use Rattle.cc_operands.specs.CcSyntax.Values.{ValueType, Integer, ToObject, ToFunction, PlaceType, DevicePlace, ObjectPlace, FunctionPlace, pointer_to}
use Rattle.cc_operands.specs.Operands.{Operand, operand, structure_at}
use Rattle.cc_operands.specs.Verdicts.{Judged}
use Rattle.cc_operands.specs.declared.rule.Rule.TheVariants as rule

-- a place; a value; a function, by its name; an intrinsic, by its name that stands there; or an integer constant
-- that is cast to a pointer type there, which is a null or names a device
pub data TypedExpr : Type 0 where
  IsPlace : Place → PlaceType → TypedExpr
  IsValue : Operand → TypedExpr
  IsFunction : ℕ → Sig → TypedExpr
  IsIntrinsic : Intr → ℕ → TypedExpr
  IsAddress : ℤ → CType → ℕ → TypedExpr

-- the address of the first element of an array (6.3.2.1, 3)
abbrev pub first_element : Place → Bool → Bool → CType → Operand
first_element a constant volatile of = operand (AddrOf (Element a (Const (pos 0) int.Int))) (ToObject constant volatile of)

-- the value of an object (6.3.2.1, 2)
abbrev pub loaded : Place → Bool → Bool → shape.Shape-F Shape CType Sig → Judged Operand
loaded a constant volatile (shape.Int t) = Ok (operand (Load a) (Integer t))
loaded a constant volatile (shape.Pointer to) = Ok (operand (Load a) (pointer_to to))
loaded a constant volatile (shape.Array of n) = Ok (first_element a constant volatile of)
loaded a constant volatile (shape.Struct i) = Ok (structure_at a)
loaded a constant volatile shape.Void = Err rule.VoidUsed
loaded a constant volatile (shape.Func sig) = Err rule.VoidUsed

abbrev pub value_at : Place → PlaceType → Judged Operand
value_at a (DevicePlace constant t) = Ok (operand (Load a) (Integer t))
value_at a (ObjectPlace constant volatile t) = loaded a constant volatile (out-Shape t.shape)
value_at a (FunctionPlace sig) = Ok (operand (AddrOf a) (ToFunction sig))

abbrev pub pointed_in : shape.Shape-F Shape CType Sig → ValueType
pointed_in (shape.Pointer to) = pointer_to to
pointed_in _ = Integer int.Int

-- a null of a pointer type (6.3.2.3, 3)
abbrev pub null : CType → Operand
null t = operand (Null t) (pointed_in (out-Shape t.shape))
