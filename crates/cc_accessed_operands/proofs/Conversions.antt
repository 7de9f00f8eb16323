-- Conversions of integers, and comparisons with nulls, keep what their operands access.
use Rattle.std.proofs.Common.{◌≡◌, ◌∙◌, Bool, true, false, refl}
use Rattle.std.specs.Prelude.{if◌then◌else◌}
use Rattle.std.proofs.lemmas.Bool.{or_left}
use Rattle.cc_accessed_operands.specs.Accessed.{accesses}
use Rattle.cc_accessed_operands.specs.Kept.{Keeps, TrapsWithoutAccess, KeepsOperand}
use Rattle.cc_accessed_operands.proofs.Constants.{folded_keeps, converted_part}
use Rattle.cc_accessed_operands.proofs.Parts.{accesses_is, never, constant_none, constant_accesses_none}
use Rattle.cc_program.specs.CcNum.declared.int_type.IntType.{IntType}
use Rattle.cc_program.specs.CcNum.declared.op.BinOp.{BinOp}
use Rattle.cc_program.specs.CcNum.declared.target.Target.{Target}
use Rattle.cc_operands.specs.Operands.{Operand, constancy, folded, cast_to, converted_by, converted_to, null_of, against_null}
use Rattle.cc_program.specs.declared.expr.Expr.{Conv}
use Rattle.cc_program.specs.declared.expr.Expr.TheOpen as one
use Rattle.cc_program.specs.declared.expr.Expr.TheVariants.{rolls-Conv, rolls-Compare}
use Rattle.cc_operands.specs.CcSyntax.Folding.{Constant, NoConstant, Value, Traps, converted_constant}
use Rattle.cc_operands.specs.CcSyntax.SameTypes.{same_int}
use Rattle.cc_operands.specs.CcSyntax.Values.{ValueType, NoValue, Integer, ToObject, ToFunction}

pub against_keeps : (o : BinOp) (x : Operand) → Keeps (against_null o x) x.value
against_keeps o x d h = accesses_is d (against_null o x) (one.Compare o x.value (null_of x.type)) (rolls-Compare o x.value (null_of x.type)) ∙ or_left (accesses d x.value) (accesses d (null_of x.type)) h

conversion_keeps : (t : IntType) (x : Operand) → Keeps (Conv t x.value) x.value
conversion_keeps t x d h = accesses_is d (Conv t x.value) (one.Conv t x.value) (rolls-Conv t x.value) ∙ h

module _ (target : Target) where
  pub cast_known : (t : IntType) (x : Operand) → TrapsWithoutAccess x → KeepsOperand (cast_to target t x) (λ d. accesses d x.value)
  cast_known t x h =
      folded_keeps t (converted_constant target t (constancy x)) (Conv t x.value) (λ d. accesses d x.value) (conversion_keeps t x)
      (λ k d. accesses_is d (Conv t x.value) (one.Conv t x.value) (rolls-Conv t x.value) ∙ constant_accesses_none x h (converted_part target t (constancy x) k) d)

  cast_by_keeps : (t : IntType) (x : Operand) (k : Constant) → constancy x ≡ k → Keeps (folded t (converted_constant target t k) (Conv t x.value)).value x.value
  cast_by_keeps t x NoConstant e = conversion_keeps t x
  cast_by_keeps t x (Value n) e = λ d h. never h (constant_none d x n e)
  cast_by_keeps t x Traps e = conversion_keeps t x

  pub cast_keeps : (t : IntType) (x : Operand) → Keeps (cast_to target t x).value x.value
  cast_keeps t x = cast_by_keeps t x (constancy x) refl

  from_keeps : (b : Bool) (t : IntType) (x : Operand) → Keeps (if b then x else cast_to target t x).value x.value
  from_keeps true t x = λ d h. h
  from_keeps false t x = cast_keeps t x

  by_keeps : (t : IntType) (x : Operand) (v : ValueType) → Keeps (converted_by target t x v).value x.value
  by_keeps t x (Integer s) = from_keeps (same_int s t) t x
  by_keeps t x NoValue = λ d h. h
  by_keeps t x (ToObject c v u) = λ d h. h
  by_keeps t x (ToFunction s) = λ d h. h

  pub converted_keeps : (t : IntType) (x : Operand) → Keeps (converted_to target t x).value x.value
  converted_keeps t x = by_keeps t x x.type

  from_known : (b : Bool) (t : IntType) (x : Operand) → TrapsWithoutAccess x → TrapsWithoutAccess (if b then x else cast_to target t x)
  from_known true t x h = h
  from_known false t x h = (cast_known t x h).known

  by_known : (t : IntType) (x : Operand) (v : ValueType) → TrapsWithoutAccess x → TrapsWithoutAccess (converted_by target t x v)
  by_known t x (Integer s) h = from_known (same_int s t) t x h
  by_known t x NoValue h = h
  by_known t x (ToObject c v u) h = h
  by_known t x (ToFunction s) h = h

  pub converted_known : (t : IntType) (x : Operand) → TrapsWithoutAccess x → TrapsWithoutAccess (converted_to target t x)
  converted_known t x h = by_known t x x.type h
