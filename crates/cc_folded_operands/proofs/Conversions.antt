-- Conversions of integers, nulls and comparisons with them are folded, where their operands are.
use Rattle.std.proofs.Common.{◌≡◌, Bool, true, false, refl, ap, ◌∙◌}
use Rattle.std.specs.Prelude.{if◌then◌else◌}
use Rattle.cc_program.specs.CcNum.declared.int_type.IntType.{IntType}
use Rattle.cc_program.specs.CcNum.declared.int_type.IntType.TheVariants as int
use Rattle.cc_program.specs.CcNum.declared.op.BinOp.{BinOp}
use Rattle.cc_program.specs.CcNum.declared.target.Target.{Target}
use Rattle.cc_operands.specs.Arithmetic.{truth}
use Rattle.cc_operands.specs.Operands.{Operand, constancy, cast_to, converted_by, converted_to, null_of, against_null}
use Rattle.cc_operands.specs.Qualified.{type_of_value}
use Rattle.cc_program.specs.declared.expr.Expr.{Expr, Conv, Compare, Qualify}
use Rattle.cc_program.specs.declared.expr.Expr.TheOpen as one
use Rattle.cc_program.specs.declared.expr.Expr.TheVariants.{rolls-Conv, rolls-Compare, rolls-Qualify}
use Rattle.cc_program.specs.declared.types.CType.{CType}
use Rattle.cc_operands.specs.CcSyntax.Folding.{Constant, operation, variable, converted_constant, is_folded}
use Rattle.cc_operands.specs.CcSyntax.SameTypes.{same_int}
use Rattle.cc_operands.specs.CcSyntax.Values.{ValueType, NoValue, Integer, ToObject, ToFunction}
use Rattle.cc_folded_operands.proofs.Opened.{Folded, IsVariable, folding_is, constant_is, variable_at, is_variable_folded, variable_operand, operation_operand, null_variable}
use Rattle.cc_folded_operands.proofs.Verdicts.{both}

module _ (target : Target) where
  pub qualify_variable : (t : CType) (e : Expr) → is_folded target e ≡ true → IsVariable target (Qualify t e)
  qualify_variable t e h = variable_at target (Qualify t e) (one.Qualify t e) (rolls-Qualify t e) refl (ap variable h)

  pub compare_variable : (o : BinOp) (a b : Expr) → is_folded target a ≡ true → is_folded target b ≡ true → IsVariable target (Compare o a b)
  compare_variable o a b h k = variable_at target (Compare o a b) (one.Compare o a b) (rolls-Compare o a b) refl (ap variable (both (is_folded target a) (is_folded target b) h k))

  pub null_folded : (t : ValueType) → is_folded target (null_of t) ≡ true
  null_folded t = is_variable_folded target (null_of t) (null_variable target (type_of_value t))

  pub against_folded : (o : BinOp) (x : Operand) → Folded target x → Folded target (truth (against_null o x))
  against_folded o x h = variable_operand target (against_null o x) (Integer int.Int) (compare_variable o x.value (null_of x.type) h.folded (null_folded x.type))

  pub cast_folded : (t : IntType) (x : Operand) → Folded target x → Folded target (cast_to target t x)
  cast_folded t x h =
      operation_operand target t (converted_constant target t (constancy x)) (Conv t x.value)
      (folding_is target (Conv t x.value) (one.Conv t x.value) (rolls-Conv t x.value)
      ∙ ap (λ (c : Constant). operation (converted_constant target t c) (is_folded target x.value)) h.constant
      ∙ ap (λ (b : Bool). operation (converted_constant target t (constancy x)) b) h.folded)
      (constant_is target (Conv t x.value) (one.Conv t x.value) (rolls-Conv t x.value))

  from_folded : (b : Bool) (t : IntType) (x : Operand) → Folded target x → Folded target (if b then x else cast_to target t x)
  from_folded true t x h = h
  from_folded false t x h = cast_folded t x h

  by_folded : (t : IntType) (x : Operand) (v : ValueType) → Folded target x → Folded target (converted_by target t x v)
  by_folded t x (Integer s) h = from_folded (same_int s t) t x h
  by_folded t x NoValue h = h
  by_folded t x (ToObject c v u) h = h
  by_folded t x (ToFunction s) h = h

  pub converted_folded : (t : IntType) (x : Operand) → Folded target x → Folded target (converted_to target t x)
  converted_folded t x h = by_folded t x x.type h
