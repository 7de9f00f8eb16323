-- `c ? a : b` and `a, b` (C99 6.5.15, 6.5.17).
use Rattle.std.specs.Prelude.{Bool, true, false, ◌&&◌, ◌||◌, Ok, Err, if◌then◌else◌}
use Rattle.cc_program.specs.CcNum.declared.int_type.IntType.{IntType}
use Rattle.cc_program.specs.CcNum.declared.target.Target.{Target}
use Rattle.cc_program.specs.CcNum.Promotions.{usual_of}
use Rattle.cc_operands.specs.Operands.{Operand, operand, as_nothing, constancy, folded, converted_to, is_pointer, is_nothing, is_to_void, is_null_constant, null_of, with_value, no_structure}
use Rattle.cc_operands.specs.Verdicts.{Judged, must}
use Rattle.cc_operands.specs.declared.rule.Rule.TheVariants as rule
use Rattle.cc_program.specs.declared.expr.Expr.{Expr, Choose, Seq}
use Rattle.cc_typed.specs.CcSyntax.Folding.{Constant, NoConstant, Value, Traps, is_true, chosen_constant}
use Rattle.cc_typed.specs.CcSyntax.Operators.{common_type}
use Rattle.cc_typed.specs.CcSyntax.Values.{ValueType, NoValue, Integer, is_scalar, point_alike}

abbrev pub chosen_integer : IntType → Operand → Operand → Operand → Operand
chosen_integer t c x y = folded t (chosen_constant (constancy c) (constancy x) (constancy y)) (Choose c.value x.value y.value)

-- no pointer to void
abbrev pub chosen_pointer : Bool → Operand → Expr → Expr → ValueType → Judged Operand
chosen_pointer to_void c a b t = if to_void then Err rule.PointerToVoid else Ok (operand (Choose c.value a b) t)

-- the arm that a constant chooses
abbrev pub arm_chosen : Constant → Operand → Operand → Operand
arm_chosen (Value n) x y = if is_true n then x else y
arm_chosen NoConstant x y = x
arm_chosen Traps x y = x

-- a choice of what has no value, by what it is as a constant expression: of constants the arm that is chosen is left
abbrev pub nothing_by : Constant → Operand → Expr → Operand
nothing_by (Value n) arm e = as_nothing arm
nothing_by NoConstant arm e = operand e NoValue
nothing_by Traps arm e = record { value = e; type = NoValue; traps = true; structure = false }

abbrev pub nothing_chosen : Operand → Operand → Operand → Operand
nothing_chosen c x y = nothing_by (chosen_constant (constancy c) (constancy x) (constancy y)) (arm_chosen (constancy c) x y) (Choose c.value x.value y.value)

module _ (target : Target) where
  abbrev pub pointers_chosen : Operand → Operand → Operand → Judged Operand
  pointers_chosen c x y =
      if is_pointer x.type && is_null_constant y then chosen_pointer (is_to_void x.type) c x.value (null_of x.type) x.type
      else (if is_pointer y.type && is_null_constant x then chosen_pointer (is_to_void y.type) c (null_of y.type) y.value y.type
      else must (point_alike x.type y.type) rule.NoCommonType (chosen_pointer (is_to_void x.type) c x.value y.value (common_type target x.type y.type)))

  abbrev pub chosen_by : Operand → Operand → Operand → ValueType → ValueType → Judged Operand
  chosen_by c x y (Integer i) (Integer j) = Ok (chosen_integer (usual_of i j target) c (converted_to target (usual_of i j target) x) (converted_to target (usual_of i j target) y))
  chosen_by c x y _ _ = pointers_chosen c x y

  -- both arms have values, or neither
  abbrev pub arms_chosen : Operand → Operand → Operand → Judged Operand
  arms_chosen c x y =
      if is_nothing x.type && is_nothing y.type then Ok (nothing_chosen c x y)
      else (if is_nothing x.type || is_nothing y.type then Err rule.NoCommonType else chosen_by c x y x.type y.type)

  abbrev pub choose_of : Operand → Operand → Operand → Judged Operand
  choose_of c x y = with_value c (must (is_scalar c.type) rule.NoScalar (no_structure x (no_structure y (arms_chosen c x y))))

-- the value of the first is not used
abbrev pub comma_of : Operand → Operand → Judged Operand
comma_of x y = no_structure x (no_structure y (Ok (operand (Seq x.value y.value) y.type)))
