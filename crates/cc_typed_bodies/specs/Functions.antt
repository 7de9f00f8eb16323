-- Typedefs and functions that are declared (C99 6.7.5.3, 6.7.7). Nothing is assigned there.
use Rattle.std.specs.Prelude.{ℕ, List, [], Option, Some, None, Ok, if◌then◌else◌}
use Rattle.cc_initialisers.specs.Initialisers.{here as given_here, refused_by}
use Rattle.cc_linkage.specs.Linkage.{declared}
use Rattle.cc_linkage.specs.declared.linkage.DeclaredAs.{DeclaredAs}
use Rattle.cc_program.specs.CcNum.declared.target.Target.{Target}
use Rattle.cc_terms.specs.CcOperands.declared.rule.Rule.TheVariants as rule
use Rattle.cc_typed_terms.specs.Primary.{is_intrinsic}
use Rattle.cc_program.specs.declared.expr.Expr.{Expr}
use Rattle.cc_program.specs.declared.func.Entry.{Entry}
use Rattle.cc_program.specs.declared.program.Roles.{Roles}
use Rattle.cc_program.specs.declared.types.CType.{CType}
use Rattle.cc_objects.specs.Values.{expr_given, no_expr}
use Rattle.cc_scopes.specs.Definitions.{with_entry}
use Rattle.cc_scopes.specs.State.{State, Name, bind, change_name}
use Rattle.cc_scopes.specs.Verdicts.{Found, whole, and_then}
use Rattle.cc_scopes.specs.declared.designated.Designated.TheVariants as means
use Rattle.cc_terms.specs.CcUnit.declared.unit.UnitKind.TheVariants as kind
use Rattle.cc_terms.specs.CcSpecifiers.Attributes.{entry_by}
use Rattle.cc_terms.specs.CcSpecifiers.Modes.{modes_judged}
use Rattle.cc_terms.specs.CcSpecifiers.declared.attribute.Attribute.{Attribute}
use Rattle.cc_tree.specs.declared.at.At.{At}
use Rattle.cc_tree.specs.declared.unit.Given.{Given}
use Rattle.cc_typed_bodies.specs.Plans.{steps_done}

-- a mode that does not fit the type is at fault at the declarator
abbrev pub typedef_left : Target → ℕ → Name → CType → List (At (List Attribute)) → State → Found (List Expr)
typedef_left target at x t marks s = and_then (whole at s (modes_judged target marks t)) (λ t s. Ok ([], bind x (means.TypeNamed t) s))

-- a function that is declared with this number, whose attributes make it such a handler, if any
abbrev pub with_function : Option Entry → ℕ × State → State
with_function entry known = change_name known.0 (with_entry entry) known.1

module _ (target : Target) (roles : Roles) where
  -- a function takes no initialiser
  abbrev pub function_refused : Option (At Given) → State → Found (List Expr)
  function_refused None s = Ok ([], s)
  function_refused (Some g) s = steps_done target roles Expr (expr_given target) no_expr (refused_by rule.InitialiserShape (given_here g)) s

  -- an intrinsic's prototype leaves nothing
  abbrev pub function_left : DeclaredAs → Name → CType → List (At (List Attribute)) → Option (At Given) → State → Found (List Expr)
  function_left asked x t marks value s =
      if is_intrinsic roles x then function_refused value s
      else function_refused value (with_function (entry_by marks) (declared x asked t (kind.Func None None) s))
