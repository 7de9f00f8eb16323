-- What a scalar of an object is given at first (C99 6.7.8).
use Rattle.std.specs.Prelude.{ℕ, pos, Bool, not, List, [], ◌∷◌, Option, Some, None, slice_get, Ok}
use Rattle.cc_initial.specs.Addresses.{leaf_of}
use Rattle.cc_program.specs.CcNum.declared.target.Target.{Target}
use Rattle.cc_typed_terms.specs.CcOperands.Assignments.{assigned}
use Rattle.cc_typed_terms.specs.CcOperands.Operands.{Operand, null_of}
use Rattle.cc_typed_terms.specs.CcOperands.Verdicts.{Judged, must, judge_then}
use Rattle.cc_typed_terms.specs.CcOperands.declared.rule.Rule.TheVariants as rule
use Rattle.cc_program.specs.declared.expr.Expr.{Expr, Const, Assign}
use Rattle.cc_program.specs.declared.expr.Place.{Place}
use Rattle.cc_program.specs.declared.types.CType.{CType}
use Rattle.cc_program.specs.declared.value.Address.TheVariants as address
use Rattle.cc_program.specs.declared.value.Leaf.{Leaf}
use Rattle.cc_program.specs.declared.value.Leaf.TheVariants as leaf
use Rattle.cc_typed_terms.specs.CcScopes.State.{State, structures_of}
use Rattle.cc_typed_terms.specs.CcScopes.declared.unit.Declared.{Declared}
use Rattle.cc_typed_terms.specs.CcUnit.declared.unit.UnitKind.{UnitKind}
use Rattle.cc_typed_terms.specs.CcUnit.declared.unit.UnitKind.TheVariants as kind
use Rattle.cc_syntax.specs.Values.{ValueType, NoValue, Integer, ToObject, ToFunction}

-- ---- a scalar for which there is no expression

abbrev pub zero_leaf : ValueType → Leaf
zero_leaf (Integer t) = leaf.Int (pos 0)
zero_leaf _ = leaf.Place address.Null

abbrev pub zero_expr : ValueType → Expr
zero_expr (Integer t) = Const (pos 0) t
zero_expr NoValue = null_of NoValue
zero_expr (ToObject constant volatile t) = null_of (ToObject constant volatile t)
zero_expr (ToFunction sig) = null_of (ToFunction sig)

-- of a static object (6.7.8, 10)
abbrev pub no_leaf : Bool → ValueType → Judged Leaf
no_leaf constant t = Ok (zero_leaf t)

-- of an automatic one; a const member is not written
abbrev pub no_expr : Bool → ValueType → Judged Expr
no_expr constant t = must (not constant) rule.NotModifiable (Ok (zero_expr t))

-- ---- one that is given an expression of such a value

abbrev pub object_by : CType → UnitKind → Option CType
object_by t (kind.Object leaves) = Some t
object_by t (kind.Device d) = None
object_by t (kind.Func entry body) = None

-- the type of a static object
abbrev pub object_of : Option Declared → Option CType
object_of None = None
object_of (Some d) = object_by d.ctype d.kind

abbrev pub objects_in : State → ℕ → Option CType
objects_in s i = object_of (slice_get s.names i)

module _ (target : Target) where
  abbrev pub leaf_given : Bool → ValueType → Operand → State → Judged Leaf
  leaf_given constant t x s = judge_then (assigned target t x) (λ y. leaf_of (structures_of s) (objects_in s) y)

  abbrev pub expr_given : Bool → ValueType → Operand → State → Judged Expr
  expr_given constant t x s = must (not constant) rule.NotModifiable (judge_then (assigned target t x) (λ y. Ok y.value))

-- the scalars of an automatic object are assigned what they are given
abbrev pub assignments : List Place → List Expr → List Expr
assignments (a ∷ rest) (e ∷ es) = Assign a e ∷ assignments rest es
assignments _ _ = []
