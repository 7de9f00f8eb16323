-- Objects with their initialisers (C99 6.7.8, 6.9.2): what they leave known, and the assignments by which automatic
-- objects are initialised.
use Rattle.std.specs.Prelude.{ℕ, Bool, List, [], Option, Some, None, length, slice_get, Ok}
use Rattle.cc_initialisers.specs.Initialisers.{here as given_here, initialised}
use Rattle.cc_initialisers.specs.Scalars.{scalars_from}
use Rattle.cc_linkage.specs.declared.linkage.DeclaredAs.{DeclaredAs}
use Rattle.cc_linkage.specs.declared.linkage.DeclaredAs.TheVariants.{AsStatic, AsObject, AsExtern}
use Rattle.cc_program.specs.CcNum.declared.target.Target.{Target}
use Rattle.cc_terms.specs.CcOperands.Operands.{Operand}
use Rattle.cc_terms.specs.CcOperands.Qualified.{without_const}
use Rattle.cc_terms.specs.CcOperands.Verdicts.{Judged}
use Rattle.cc_typed_terms.specs.Primary.{leaves_or_none}
use Rattle.cc_program.specs.declared.expr.Expr.{Expr}
use Rattle.cc_program.specs.declared.expr.Place.{Place, Local, Static}
use Rattle.cc_program.specs.declared.program.Roles.{Roles}
use Rattle.cc_program.specs.declared.types.CType.{CType}
use Rattle.cc_program.specs.declared.value.Leaf.{Leaf}
use Rattle.cc_objects.specs.Linked.{object_declared, with_static, with_automatic}
use Rattle.cc_objects.specs.Types.{contents_in, type_given, given_incomplete, completed_type, type_agrees, composite}
use Rattle.cc_objects.specs.Values.{leaf_given, expr_given, no_leaf, no_expr, assignments}
use Rattle.cc_scopes.specs.Definitions.{tentative_at, defined_at, with_values}
use Rattle.cc_scopes.specs.State.{State, Name, change_name, with_unfinished}
use Rattle.cc_scopes.specs.Verdicts.{Found, whole, and_then}
use Rattle.cc_terms.specs.CcUnit.declared.unit.UnitKind.TheVariants as kind
use Rattle.cc_terms.specs.CcSyntax.Values.{ValueType}
use Rattle.cc_tree.specs.declared.at.At.{At}
use Rattle.cc_tree.specs.declared.unit.Given.{Given}
use Rattle.cc_typed_bodies.specs.Plans.{steps_done}

module _ (target : Target) (roles : Roles) where
  -- what the scalars of an object are given, which is written as one of the type `own`; `at` is where its declarator
  -- begins, t its type as declared and u its type
  module _ (X : Type 0) (given : Bool → ValueType → Operand → State → Judged X) (zero_of : Bool → ValueType → Judged X) where
    abbrev pub initial_values : ℕ → Place → CType → CType → CType → At Given → State → Found (List X)
    initial_values at a t u own g s =
        and_then (steps_done target roles X given zero_of (initialised (contents_in own s) (given_here g)) (given_incomplete t a s)) (λ xs s.
        and_then (whole at s (completed_type target t u s)) (λ u s. Ok (xs, with_unfinished None s)))

  -- the first values of a static object
  abbrev pub leaves_found : ℕ → ℕ → CType → CType → At Given → State → Found (List Leaf)
  leaves_found at n t u g s = initial_values Leaf (leaf_given target) no_leaf at (Static n) t u u g s

  -- what the scalars of an automatic object are assigned
  abbrev pub exprs_found : ℕ → ℕ → CType → CType → At Given → State → Found (List Expr)
  exprs_found at n t u g s = initial_values Expr (expr_given target) no_expr at (Local n) t u (without_const u) g s

  -- ---- objects with linkage: a definition, a tentative one, or none (6.9.2)

  abbrev pub linked_defined : ℕ → CType → CType → ℕ → At Given → State → Found (List Expr)
  linked_defined at t u n g s =
      and_then (leaves_found at n t u g s) (λ values s.
      and_then (whole at s (type_agrees u (slice_get s.names n))) (λ u s.
      Ok ([], change_name n (defined_at at u (kind.Object (leaves_or_none values))) s)))

  abbrev pub linked_given : ℕ → DeclaredAs → CType → CType → ℕ → Option (At Given) → State → Found (List Expr)
  linked_given at asked t u n (Some g) s = linked_defined at t u n g s
  linked_given at AsExtern t u n None s = Ok ([], s)
  linked_given at AsStatic t u n None s = Ok ([], change_name n (tentative_at at) s)
  linked_given at AsObject t u n None s = Ok ([], change_name n (tentative_at at) s)

  abbrev pub linked_known : ℕ → DeclaredAs → CType → CType → Option (At Given) → ℕ × State → Found (List Expr)
  linked_known at asked t u value known = linked_given at asked t u known.0 value known.1

  -- of the type t as declared, and u with its bound; the names are those of the objects that the unit defines
  abbrev pub linked_as : List Name → ℕ → DeclaredAs → Name → CType → CType → Option (At Given) → State → Found (List Expr)
  linked_as defined at asked x t u value s = linked_known at asked t u value (object_declared defined asked x u s)

  abbrev pub linked_left : List Name → ℕ → DeclaredAs → Name → CType → Option (At Given) → State → Found (List Expr)
  linked_left defined at asked x t value s = linked_as defined at asked x (composite x t s) (type_given (composite x t s) value s) value s

  -- ---- static objects of a block (6.2.4, 3)

  abbrev pub static_given : ℕ → CType → CType → ℕ → Option (At Given) → State → Found (List Expr)
  static_given at t u n None s = Ok ([], s)
  static_given at t u n (Some g) s = and_then (leaves_found at n t u g s) (λ values s. Ok ([], change_name n (with_values (leaves_or_none values)) s))

  abbrev pub static_as : ℕ → Name → CType → CType → Option (At Given) → State → Found (List Expr)
  static_as at x t u value s = static_given at t u (length s.names) value (with_static at x u s)

  abbrev pub static_left : ℕ → Name → CType → Option (At Given) → State → Found (List Expr)
  static_left at x t value s = static_as at x t (type_given t value s) value s

  -- ---- automatic objects (6.2.4, 4)

  abbrev pub automatic_given : ℕ → CType → CType → ℕ → Option (At Given) → State → Found (List Expr)
  automatic_given at t u n None s = Ok ([], s)
  automatic_given at t u n (Some g) s =
      and_then (exprs_found at n t u g s) (λ values s. Ok (assignments (scalars_from target (contents_in (without_const u) s) 0 (Local n)) values, s))

  abbrev pub automatic_as : ℕ → Name → CType → CType → Option (At Given) → State → Found (List Expr)
  automatic_as at x t u value s = automatic_given at t u (length s.locals) value (with_automatic x u s)

  abbrev pub automatic_left : ℕ → Name → CType → Option (At Given) → State → Found (List Expr)
  automatic_left at x t value s = automatic_as at x t (type_given t value s) value s
