-- The law of initialisers, and of what is left of a declarator.
use Rattle.std.proofs.Common.{ℕ, Bool, true, false, length, List, [], ◌∷◌, ◌++◌, Option, Some, None, option_to_list, Ok, Err, if◌then◌else◌, refl, slice_get}
use Rattle.cc_typed_bodies.specs.CcInitialisers.Initialisers.{Step, Give, Character, Zero, Visit, Break, here as given_here, initialised, refused_by}
use Rattle.cc_typed_bodies.specs.CcLinkage.Linkage.{declared}
use Rattle.cc_typed_bodies.specs.CcLinkage.declared.linkage.DeclaredAs.{DeclaredAs}
use Rattle.cc_typed_bodies.specs.CcLinkage.declared.linkage.DeclaredAs.TheVariants.{AsStatic, AsObject, AsExtern}
use Rattle.cc_program.specs.CcNum.declared.int_type.IntType.TheVariants as int
use Rattle.cc_program.specs.CcNum.declared.target.Target.{Target}
use Rattle.cc_typed_bodies.specs.CcObjects.Linked.{object_declared, with_static, with_automatic}
use Rattle.cc_typed_bodies.specs.CcObjects.Types.{contents_in, type_given, given_incomplete, completed_type, type_agrees, composite}
use Rattle.cc_typed_bodies.specs.CcObjects.Values.{leaf_given, no_leaf, expr_given, no_expr}
use Rattle.cc_typed_bodies.specs.CcObjects.declared.category.Category.{Category}
use Rattle.cc_typed_bodies.specs.CcObjects.declared.category.Category.TheVariants as declares
use Rattle.cc_typed_bodies.specs.CcOperands.Operands.{Operand, integer, character_value}
use Rattle.cc_typed_bodies.specs.CcOperands.Qualified.{without_const}
use Rattle.cc_typed_bodies.specs.CcOperands.Verdicts.{Judged}
use Rattle.cc_typed_bodies.specs.CcOperands.declared.rule.Rule.TheVariants as rule
use Rattle.cc_typed_bodies.specs.CcTypedTerms.Primary.{is_intrinsic}
use Rattle.cc_program.specs.declared.expr.Expr.{Expr}
use Rattle.cc_program.specs.declared.expr.Place.{Local, Static}
use Rattle.cc_program.specs.declared.program.Roles.{Roles}
use Rattle.cc_program.specs.declared.types.CType.{CType}
use Rattle.cc_program.specs.declared.value.Leaf.{Leaf}
use Rattle.cc_typed_bodies.specs.CcScopes.State.{State, Name, with_unfinished}
use Rattle.cc_typed_bodies.specs.CcScopes.Verdicts.{whole, and_then}
use Rattle.cc_typed_bodies.specs.CcSpecifiers.Attributes.{entry_by}
use Rattle.cc_typed_bodies.specs.CcSpecifiers.Modes.{modes_judged}
use Rattle.cc_typed_bodies.specs.CcSpecifiers.declared.attribute.Attribute.{Attribute}
use Rattle.cc_typed_bodies.specs.CcSyntax.Values.{ValueType}
use Rattle.cc_tree.specs.declared.at.At.{At}
use Rattle.cc_tree.specs.declared.unit.Given.{Given}
use Rattle.cc_typed_bodies.specs.Functions.{function_refused, with_function}
use Rattle.cc_typed_bodies.specs.Declarations.{declared_left}
use Rattle.cc_typed_bodies.specs.Objects.{initial_values, linked_known, static_given, automatic_given}
use Rattle.cc_typed_bodies.specs.Plans.{as_given, step_found, step_done, steps_done}
use Rattle.cc_typed_bodies.specs.CcUnit.declared.unit.UnitKind.TheVariants as kind
use Rattle.cc_first_faults.specs.Constructs.{LeafGiven, ScalarAssigned, step_at}
use Rattle.cc_first_faults.specs.FirstFaults.{forget}
use Rattle.cc_first_faults.specs.Parts.{step_parts, leaf_parts, assignment_parts, refused_parts, static_parts, automatic_parts, left_parts}
use Rattle.cc_first_faults.proofs.Expressions.{value-last}
use Rattle.cc_first_faults.proofs.Lawful.{Own, own-whole, own-then, same-state}
use Rattle.cc_first_faults.proofs.Laws.{Law, Told, first, last, each}
use Rattle.cc_first_faults.proofs.Trees.{every-tree}

own-given : {X : Type 0} (at : ℕ) (s : State) (j : Judged X) → Own at (forget (as_given (whole at s j)))
own-given at s j = own-then at (whole at s j) _ (own-whole at s j) (λ x t. tt)

module _ (target : Target) (roles : Roles) (defined : List Name) where
  -- ---- steps

  step-told : {X : Type 0} (given : Bool → ValueType → Operand → State → Judged X) (zero_of : Bool → ValueType → Judged X) (x : Step) (s : State) →
      Told target roles defined (step_at x) (step_parts x s) (step_found target roles X given zero_of x s)
  step-told given zero_of (Give constant t e) s =
      value-last target roles defined e.at (record { at = e.at; node = (e.node, every-tree target roles defined e.node) }) s _ (λ x u. own-given e.at u (given constant t x u))
  step-told given zero_of (Character at constant t byte) s = own-given at s (given constant t (integer (character_value target byte) int.Int) s)
  step-told given zero_of (Zero at constant t) s = own-given at s (zero_of constant t)
  step-told given zero_of (Visit e) s =
      value-last target roles defined e.at (record { at = e.at; node = (e.node, every-tree target roles defined e.node) }) s _ (λ x u. tt)
  step-told given zero_of (Break at broken) s = refl

  pub leaf-law : (x : Step) (s : State) → Law target roles defined (LeafGiven x) s
  leaf-law x s = step-told (leaf_given target) no_leaf x s

  pub assignment-law : (x : Step) (s : State) → Law target roles defined (ScalarAssigned x) s
  assignment-law x s = step-told (expr_given target) no_expr x s

  leaves-told : (at : ℕ) (xs : List Step) (s : State) → Told target roles defined at (leaf_parts target roles xs s) (steps_done target roles Leaf (leaf_given target) no_leaf xs s)
  leaves-told at xs s =
      each target roles defined at (step_done target roles Leaf (leaf_given target) no_leaf) (λ x before. LeafGiven x)
      (λ x before s. same-state (step_found target roles Leaf (leaf_given target) no_leaf x s) (λ y. before ++ option_to_list y)) xs
      (λ x before s. first target roles defined (LeafGiven x) s (leaf-law x s)) [] s

  assignments-told : (at : ℕ) (xs : List Step) (s : State) → Told target roles defined at (assignment_parts target roles xs s) (steps_done target roles Expr (expr_given target) no_expr xs s)
  assignments-told at xs s =
      each target roles defined at (step_done target roles Expr (expr_given target) no_expr) (λ x before. ScalarAssigned x)
      (λ x before s. same-state (step_found target roles Expr (expr_given target) no_expr x s) (λ y. before ++ option_to_list y)) xs
      (λ x before s. first target roles defined (ScalarAssigned x) s (assignment-law x s)) [] s

  -- ---- functions

  refused-told : (at : ℕ) (value : Option (At Given)) (s : State) → Told target roles defined at (refused_parts target roles value s) (function_refused target roles value s)
  refused-told at None s = tt
  refused-told at (Some g) s = assignments-told at (refused_by rule.InitialiserShape (given_here g)) s

  function-by : (intrinsic : Bool) (at : ℕ) (value : Option (At Given)) (s t : State) →
      Told target roles defined at (if intrinsic then refused_parts target roles value s else refused_parts target roles value t) (if intrinsic then function_refused target roles value s else function_refused target roles value t)
  function-by true at value s t = refused-told at value s
  function-by false at value s t = refused-told at value t

  -- ---- objects: the initialiser, and the type that it completes

  completed-own : {X : Type 0} (at : ℕ) (t u : CType) (x : X) (s : State) → Own at (forget (and_then (whole at s (completed_type target t u s)) (λ u s. Ok (x, with_unfinished None s))))
  completed-own at t u x s = own-then at (whole at s (completed_type target t u s)) _ (own-whole at s (completed_type target t u s)) (λ u s. tt)

  linked-told : (at : ℕ) (asked : DeclaredAs) (t u : CType) (value : Option (At Given)) (known : ℕ × State) → Told target roles defined at (static_parts target roles t u value known) (linked_known target roles at asked t u value known)
  linked-told at AsExtern t u None known = tt
  linked-told at AsStatic t u None known = tt
  linked-told at AsObject t u None known = tt
  linked-told at asked t u (Some g) known =
      last target roles defined at (static_parts target roles t u (Some g) known) (initial_values target roles Leaf (leaf_given target) no_leaf at (Static known.0) t u u g known.1) _
      (last target roles defined at (static_parts target roles t u (Some g) known) (steps_done target roles Leaf (leaf_given target) no_leaf (initialised (contents_in u known.1) (given_here g)) (given_incomplete t (Static known.0) known.1)) _
      (leaves-told at (initialised (contents_in u known.1) (given_here g)) (given_incomplete t (Static known.0) known.1)) (λ xs s. completed-own at t u xs s))
      (λ xs s. own-then at (whole at s (type_agrees u (slice_get s.names known.0))) _ (own-whole at s (type_agrees u (slice_get s.names known.0))) (λ u s. tt))

  static-told : (at : ℕ) (t u : CType) (value : Option (At Given)) (n : ℕ) (s : State) → Told target roles defined at (static_parts target roles t u value (n, s)) (static_given target roles at t u n value s)
  static-told at t u None n s = tt
  static-told at t u (Some g) n s =
      last target roles defined at (static_parts target roles t u (Some g) (n, s)) (initial_values target roles Leaf (leaf_given target) no_leaf at (Static n) t u u g s) _
      (last target roles defined at (static_parts target roles t u (Some g) (n, s)) (steps_done target roles Leaf (leaf_given target) no_leaf (initialised (contents_in u s) (given_here g)) (given_incomplete t (Static n) s)) _
      (leaves-told at (initialised (contents_in u s) (given_here g)) (given_incomplete t (Static n) s)) (λ xs s. completed-own at t u xs s))
      (λ xs s. tt)

  automatic-told : (at : ℕ) (t u : CType) (value : Option (At Given)) (n : ℕ) (s : State) → Told target roles defined at (automatic_parts target roles t u value (n, s)) (automatic_given target roles at t u n value s)
  automatic-told at t u None n s = tt
  automatic-told at t u (Some g) n s =
      last target roles defined at (automatic_parts target roles t u (Some g) (n, s)) (initial_values target roles Expr (expr_given target) no_expr at (Local n) t u (without_const u) g s) _
      (last target roles defined at (automatic_parts target roles t u (Some g) (n, s)) (steps_done target roles Expr (expr_given target) no_expr (initialised (contents_in (without_const u) s) (given_here g)) (given_incomplete t (Local n) s)) _
      (assignments-told at (initialised (contents_in (without_const u) s) (given_here g)) (given_incomplete t (Local n) s)) (λ xs s. completed-own at t u xs s))
      (λ xs s. tt)

  -- ---- what is left of a declarator

  pub left-told : (at : ℕ) (c : Category) (t : CType) (x : Name) (marks : List (At (List Attribute))) (value : Option (At Given)) (s : State) →
      Told target roles defined at (left_parts target roles defined at c t x marks value s) (declared_left target roles defined at c x t marks value s)
  left-told at declares.Typedef t x marks value s = own-then at (whole at s (modes_judged target marks t)) _ (own-whole at s (modes_judged target marks t)) (λ u v. tt)
  left-told at (declares.Function asked) t x marks value s = function-by (is_intrinsic roles x) at value s (with_function (entry_by marks) (declared x asked t (kind.Func None None) s))
  left-told at (declares.Linked asked) t x marks value s =
      linked-told at asked (composite x t s) (type_given (composite x t s) value s) value (object_declared defined asked x (type_given (composite x t s) value s) s)
  left-told at declares.StaticLocal t x marks value s = static-told at t (type_given t value s) value (length s.names) (with_static at x (type_given t value s) s)
  left-told at declares.Automatic t x marks value s = automatic-told at t (type_given t value s) value (length s.locals) (with_automatic x (type_given t value s) s)
