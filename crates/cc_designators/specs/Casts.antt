-- Casts, the devices that they name, and sizes (C99 6.5.4, 6.5.3.4).
use Rattle.std.specs.Prelude.{ℕ, ◌*◌, ◌^◌, ℤ, pos, negsuc, Bool, false, nat_lt, Ok, Err, if◌then◌else◌}
use Rattle.std.specs.Ordering.{int_eq}
use Rattle.cc_program.specs.CcNum.declared.int_type.IntType.{IntType}
use Rattle.cc_program.specs.CcNum.declared.target.Target.{Target}
use Rattle.cc_program.specs.CcNum.Integers.{is_value_of}
use Rattle.cc_operands.specs.Operands.{Operand, operand, as_nothing, integer, constancy, cast_to, size_type, is_null_constant, with_value, no_structure}
use Rattle.cc_operands.specs.Qualified.{unqualified}
use Rattle.cc_operands.specs.Verdicts.{Judged, must}
use Rattle.cc_operands.specs.declared.rule.Rule.TheVariants as rule
use Rattle.cc_program.specs.declared.expr.Expr.{Qualify}
use Rattle.cc_program.specs.declared.types.CType.{CType}
use Rattle.cc_program.specs.declared.types.Shape.{Shape, out-Shape}
use Rattle.cc_program.specs.declared.types.Shape.TheOpen as shape
use Rattle.cc_program.specs.declared.types.Sig.{Sig}
use Rattle.cc_operands.specs.CcSyntax.Folding.{Constant, NoConstant, Value, Traps}
use Rattle.cc_operands.specs.CcSyntax.Values.{ValueType, Integer, pointer_to, is_void, is_assignable}
use Rattle.cc_designators.specs.Designators.{TypedExpr, IsValue, IsAddress, null}
use Rattle.cc_designators.specs.Postfix.{indirection}

-- ---- `(t)a`: integer to integer; to void; a null constant, or an integer constant, to a pointer; a pointer to the
-- same type with the same qualifiers or more

abbrev pub void_pointer_cast : CType → Operand → Judged TypedExpr
void_pointer_cast t x = must (is_null_constant x) rule.PointerToVoid (Ok (IsValue (null t)))

abbrev pub constant_cast : ℕ → CType → Constant → Judged TypedExpr
constant_cast at t NoConstant = Err rule.Cast
constant_cast at t (Value n) = Ok (IsAddress n t at)
constant_cast at t Traps = Err rule.ConstantTraps

abbrev pub qualified_cast : CType → CType → Operand → Judged TypedExpr
qualified_cast t to x =
    if is_null_constant x then Ok (IsValue (null t))
    else must (is_assignable (pointer_to to) x.type) rule.Cast (Ok (IsValue (operand (Qualify t x.value) (pointer_to to))))

abbrev pub pointer_cast : ℕ → CType → CType → Operand → ValueType → Judged TypedExpr
pointer_cast at t to x (Integer s) = constant_cast at t (constancy x)
pointer_cast at t to x _ = qualified_cast t to x

abbrev pub integer_cast : Target → IntType → Operand → ValueType → Judged TypedExpr
integer_cast target t x (Integer s) = Ok (IsValue (cast_to target t x))
integer_cast target t x _ = Err rule.Cast

abbrev pub cast_by : Target → ℕ → CType → Operand → shape.Shape-F Shape CType Sig → Judged TypedExpr
cast_by target at t x shape.Void = no_structure x (Ok (IsValue (as_nothing x)))
cast_by target at t x (shape.Int i) = with_value x (integer_cast target i x x.type)
cast_by target at t x (shape.Pointer to) = with_value x (if is_void to then void_pointer_cast t x else pointer_cast at t to x x.type)
cast_by target at t x (shape.Array of n) = Err rule.Cast
cast_by target at t x (shape.Struct i) = Err rule.Cast
cast_by target at t x (shape.Func sig) = Err rule.Cast

abbrev pub cast_of : Target → ℕ → CType → Operand → Judged TypedExpr
cast_of target at t x = cast_by target at (unqualified t) x (out-Shape t.shape)

-- ---- `*(volatile T *)n`, T an integer type: the device at the address n, where a pointer holds it

abbrev pub fits_pointer : Target → ℤ → Bool
fits_pointer target (pos n) = nat_lt n (2 ^ (8 * target.pointer_bytes))
fits_pointer target (negsuc n) = false

-- another type than a volatile integer is behind a null alone
abbrev pub no_device : ℤ → CType → Judged TypedExpr
no_device n t = must (int_eq n (pos 0)) rule.Device (indirection (null t))

-- ---- sizeof, where size_t holds it

abbrev pub size_value : Target → ℕ → Judged Operand
size_value target n = must (is_value_of (size_type target) target (pos n)) rule.SizeOf (Ok (integer (pos n) (size_type target)))
