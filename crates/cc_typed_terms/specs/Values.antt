-- The value of what an expression designates (C99 6.3.2.1, 2 to 4), where the expression stands.
use Rattle.std.specs.Prelude.{ℕ, ℤ, pos, Ok, Err, if◌then◌else◌}
use Rattle.std.specs.Ordering.{int_eq}
use Rattle.cc_designators.specs.Designators.{TypedExpr, IsPlace, IsValue, IsFunction, IsIntrinsic, IsAddress, value_at, null}
use Rattle.cc_scopes.specs.CcOperands.Operands.{Operand, operand}
use Rattle.cc_scopes.specs.CcOperands.Verdicts.{Judged}
use Rattle.cc_scopes.specs.CcOperands.declared.rule.Rule.TheVariants as rule
use Rattle.cc_program.specs.declared.expr.Expr.{FuncAddr}
use Rattle.cc_program.specs.declared.types.CType.{CType}
use Rattle.cc_scopes.specs.State.{State}
use Rattle.cc_scopes.specs.Verdicts.{Found, Meaning, whole, and_then, part}
use Rattle.cc_scopes.specs.CcSyntax.Values.{ToFunction}
use Rattle.cc_tree.specs.declared.at.At.{At}

-- an integer constant that is cast to a pointer type, elsewhere than behind `*`: a null (6.3.2.3, 3)
abbrev pub null_judged : ℤ → CType → Judged Operand
null_judged n t = if int_eq n (pos 0) then Ok (null t) else Err rule.Cast

-- a value that rules tell of values
abbrev pub found_value : Judged Operand → Judged TypedExpr
found_value (Ok x) = Ok (IsValue x)
found_value (Err broken) = Err broken

abbrev pub gives : ℕ → State → Judged Operand → Found TypedExpr
gives at s judged = whole at s (found_value judged)

-- of an expression that begins at this place
abbrev pub valued : ℕ → TypedExpr → State → Found Operand
valued at (IsPlace a t) s = whole at s (value_at a t)
valued at (IsValue x) s = Ok (x, s)
valued at (IsFunction f sig) s = Ok (operand (FuncAddr f) (ToFunction sig), s)
valued at (IsIntrinsic i place) s = whole place s (Err rule.MainOrIntrinsic)
valued at (IsAddress n t place) s = whole place s (null_judged n t)

abbrev pub value_found : At (Meaning TypedExpr) → State → Found Operand
value_found e s = part e s (valued e.at)

-- a part, whose value is taken, and then what stands behind it
abbrev pub value : {B : Type 0} → At (Meaning TypedExpr) → State → (Operand → State → Found B) → Found B
value e s next = and_then (value_found e s) next

-- a part that is taken as what it designates: an intrinsic is only called, and a device is only behind `*`
abbrev pub designating : TypedExpr → State → Found TypedExpr
designating (IsPlace a t) s = Ok (IsPlace a t, s)
designating (IsValue x) s = Ok (IsValue x, s)
designating (IsFunction f sig) s = Ok (IsFunction f sig, s)
designating (IsIntrinsic i place) s = whole place s (Err rule.MainOrIntrinsic)
designating (IsAddress n t place) s = whole place s (found_value (null_judged n t))

abbrev pub designated_found : At (Meaning TypedExpr) → State → Found TypedExpr
designated_found e s = part e s designating

abbrev pub designator : {B : Type 0} → At (Meaning TypedExpr) → State → (TypedExpr → State → Found B) → Found B
designator e s next = and_then (designated_found e s) next
