-- Calls of functions and of intrinsics, by their prototypes (C99 6.5.2.2).
use Rattle.std.specs.Prelude.{List, [], ◌∷◌, Option, Some, None, Ok, Err}
use Rattle.cc_program.specs.CcNum.declared.int_type.IntType.TheVariants as int
use Rattle.cc_program.specs.CcNum.declared.target.Target.{Target}
use Rattle.cc_program.specs.declared.expr.Expr.{Expr, Call, Intr}
use Rattle.cc_program.specs.declared.expr.Intr.{Intr as Intrinsic}
use Rattle.cc_program.specs.declared.expr.Intr.TheVariants as intr
use Rattle.cc_program.specs.declared.types.CType.{CType}
use Rattle.cc_program.specs.declared.types.Shape.{Void, Int}
use Rattle.cc_program.specs.declared.types.Sig.{Sig, out-Sig, roll-Sig}
use Rattle.cc_operands.specs.CcSyntax.Values.{ValueType, NoValue, Integer, ToObject, ToFunction, result_value, scalar_value}
use Rattle.cc_operands.specs.Assignments.{assigned}
use Rattle.cc_operands.specs.Qualified.{plain}
use Rattle.cc_operands.specs.Operands.{Operand, operand, with_value}
use Rattle.cc_operands.specs.Verdicts.{Judged, judge_then}
use Rattle.cc_operands.specs.declared.rule.Rule.TheVariants as rule

abbrev pub signature : CType → List CType → Sig
signature result params = roll-Sig (record { result = result; params = params })

abbrev pub byte_type : CType
byte_type = plain (Int int.UChar)

-- `irq_save` gives unsigned char, which `irq_restore` takes
abbrev pub intrinsic_signature : Intrinsic → Sig
intrinsic_signature intr.Off = signature (plain Void) []
intrinsic_signature intr.On = signature (plain Void) []
intrinsic_signature intr.Save = signature byte_type []
intrinsic_signature intr.Restore = signature (plain Void) (byte_type ∷ [])

abbrev pub first_or_none : List Expr → Option Expr
first_or_none [] = None
first_or_none (e ∷ es) = Some e

-- what a call gives of a function of such a result
abbrev pub result_of : Expr → Option ValueType → Judged Operand
result_of call None = Err rule.Callee
result_of call (Some t) = Ok (operand call t)

module _ (target : Target) where
  abbrev pub passed_to : CType → Operand → Option ValueType → Judged Operand
  passed_to t x None = Err rule.NotAssignable
  passed_to t x (Some to) = assigned target to x

  -- each argument as if assigned to its parameter
  abbrev pub passed : List CType → List Operand → Judged (List Expr)
  passed [] [] = Ok []
  passed (t ∷ ts) (x ∷ xs) = judge_then (passed_to t x (scalar_value t)) (λ y. judge_then (passed ts xs) (λ ys. Ok (y.value ∷ ys)))
  passed [] (x ∷ xs) = Err rule.ArgumentCount
  passed (t ∷ ts) [] = Err rule.ArgumentCount

  abbrev pub called_with : (List Expr → Expr) → Sig → List Operand → Judged Operand
  called_with call sig xs = judge_then (passed (out-Sig sig).params xs) (λ args. result_of (call args) (result_value (out-Sig sig).result))

  abbrev pub called_by : Expr → ValueType → List Operand → Judged Operand
  called_by f (ToFunction sig) xs = called_with (Call f) sig xs
  called_by f NoValue xs = Err rule.Callee
  called_by f (Integer t) xs = Err rule.Callee
  called_by f (ToObject constant volatile t) xs = Err rule.Callee

  abbrev pub called : Operand → List Operand → Judged Operand
  called f xs = with_value f (called_by f.value f.type xs)

  -- an intrinsic, by its prototype
  abbrev pub intrinsic : Intrinsic → List Operand → Judged Operand
  intrinsic i xs = called_with (λ args. Intr i (first_or_none args)) (intrinsic_signature i) xs
