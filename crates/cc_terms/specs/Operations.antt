-- What operators make of operands that are found (C99 6.5.2, 6.5.3), where the operator's construct begins at the first place
-- and its operand at the second.
use Rattle.std.specs.Prelude.{ℕ, List, Option, Some, None, Ok, Err, take, if◌then◌else◌}
use Rattle.cc_typed_terms.specs.CcDesignators.Assignments.{stepped_before}
use Rattle.cc_typed_terms.specs.CcDesignators.Calls.{called, intrinsic}
use Rattle.cc_typed_terms.specs.CcDesignators.Designators.{TypedExpr, IsPlace, IsValue, IsIntrinsic}
use Rattle.cc_typed_terms.specs.CcDesignators.Postfix.{subscripted, element, is_array_place, address}
use Rattle.cc_typed_terms.specs.CcLex.declared.token.Mark.{Mark}
use Rattle.cc_program.specs.CcNum.declared.target.Target.{Target}
use Rattle.cc_typed_terms.specs.CcOperands.Operands.{Operand}
use Rattle.cc_typed_terms.specs.CcOperands.Operators.{unary_operator_of}
use Rattle.cc_typed_terms.specs.CcOperands.Verdicts.{Judged}
use Rattle.cc_typed_terms.specs.CcOperands.declared.rule.Rule.TheVariants as rule
use Rattle.cc_typed_terms.specs.Devices.{starred}
use Rattle.cc_typed_terms.specs.Operators.{prefix_of, intrinsic_in, unary_by}
use Rattle.cc_typed_terms.specs.Values.{gives, valued, designating}
use Rattle.cc_typed_terms.specs.declared.prefix.Prefix.{Prefix}
use Rattle.cc_typed_terms.specs.declared.prefix.Prefix.TheVariants as prefix
use Rattle.cc_program.specs.declared.expr.Intr.{Intr}
use Rattle.cc_program.specs.declared.types.CType.{CType}
use Rattle.cc_program.specs.declared.types.Structure.{Structure}
use Rattle.cc_scopes.specs.State.{State, with_names, structures_of}
use Rattle.cc_scopes.specs.Verdicts.{Found, and_then}
use Rattle.cc_typed_terms.specs.Sizes.{sizeof_judged, size_of_type}

-- the value of an expression, as an expression
abbrev pub as_value : ℕ → TypedExpr → State → Found TypedExpr
as_value at x s = and_then (valued at x s) (λ y s. Ok (IsValue y, s))

-- ---- `a[i]` (6.5.2.1): an array that is a place is taken as it is, all else as its value

abbrev pub subscript_base : ℕ → TypedExpr → State → Found TypedExpr
subscript_base at x s = if is_array_place x then Ok (x, s) else as_value at x s

-- of these two alone
abbrev pub subscript_judged : List Structure → TypedExpr → Operand → Judged TypedExpr
subscript_judged structures (IsPlace a t) i = element a t i
subscript_judged structures (IsValue x) i = subscripted structures x i
subscript_judged structures _ i = Err rule.Subscript

-- ---- `f(..)` (6.5.2.2): an intrinsic is taken as it is, all else as its value

abbrev pub callee_by : ℕ → TypedExpr → State → Option Intr → Found TypedExpr
callee_by at x s (Some i) = Ok (x, s)
callee_by at x s None = as_value at x s

abbrev pub callee : ℕ → TypedExpr → State → Found TypedExpr
callee at x s = callee_by at x s (intrinsic_in x)

module _ (target : Target) where
  -- of these two alone
  abbrev pub call_judged : TypedExpr → List Operand → Judged Operand
  call_judged (IsIntrinsic i place) xs = intrinsic target i xs
  call_judged (IsValue f) xs = called target f xs
  call_judged _ xs = Err rule.Callee

  -- ---- prefixes (6.5.3)

  abbrev pub prefixed_by : Mark → ℕ → ℕ → TypedExpr → State → Prefix → Found TypedExpr
  prefixed_by o at inner x s prefix.Star = starred target at inner x s
  prefixed_by o at inner x s prefix.Amp = and_then (designating x s) (λ x s. gives at s (address x))
  prefixed_by o at inner x s (prefix.Step down) = and_then (designating x s) (λ x s. gives at s (stepped_before target (structures_of s) down x))
  prefixed_by o at inner x s prefix.OnValue = and_then (valued inner x s) (λ x s. gives at s (unary_by target (unary_operator_of o) x))

  abbrev pub prefixed : Mark → ℕ → ℕ → TypedExpr → State → Found TypedExpr
  prefixed o at inner x s = prefixed_by o at inner x s (prefix_of o)

-- ---- sizeof (6.5.3.4, 2): its operand is not evaluated, so of the objects and devices only as many stay as there were
-- in front of it

abbrev pub forgotten : {A : Type 0} → ℕ → A → State → Found A
forgotten count x s = Ok (x, with_names (take count s.names) s)

module _ (target : Target) where
  abbrev pub sizeof_found : ℕ → ℕ → TypedExpr → State → Found TypedExpr
  sizeof_found at count x s = and_then (gives at s (sizeof_judged target s x)) (forgotten count)

  abbrev pub sizeof_type_found : ℕ → ℕ → CType → State → Found TypedExpr
  sizeof_type_found at count t s = and_then (gives at s (size_of_type target s t)) (forgotten count)
