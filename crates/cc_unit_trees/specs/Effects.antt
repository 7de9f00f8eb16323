-- Which trees show what a statement in normal form does: an assignment, a call, or an intrinsic.
use Rattle.std.specs.Prelude.{◌≡◌, ℕ, List, [], ◌∷◌, Option, Some, None}
use Rattle.cc_lex.specs.declared.token.Mark.TheVariants as m
use Rattle.cc_bodies.specs.Stmts.{taker, parameters_of, first, behind_first, intrinsic_name}
use Rattle.cc_expression_trees.specs.Exprs.{ShowsExpr, ShowsPlace, ShowsValue}
use Rattle.cc_program.specs.declared.expr.Expr.{Expr, out-Expr}
use Rattle.cc_program.specs.declared.expr.Expr.TheOpen as one
use Rattle.cc_program.specs.declared.expr.Intr.{Intr}
use Rattle.cc_program.specs.declared.expr.Place.{Place}
use Rattle.cc_program.specs.declared.func.Func.{Func}
use Rattle.cc_program.specs.declared.program.Program.{Program}
use Rattle.cc_program.specs.declared.types.CType.{CType}
use Rattle.cc_typed.specs.CcSyntax.Programs.{type_of, place_type}
use Rattle.cc_tree.specs.declared.at.At.{At}
use Rattle.cc_tree.specs.declared.tree.Tree as tree
use Rattle.cc_tree.specs.declared.tree.Tree.{Tree}

module _ (p : Program) (f : Func) where
  -- arguments, each with the type of its parameter
  pub data ShowsArguments : List CType → List Expr → List (At Tree) → Type 0 where
    NoArgument : (ts : List CType) → ShowsArguments ts [] []
    MoreArguments : (ts : List CType) (e : Expr) (es : List Expr) (x : At Tree) (xs : List (At Tree)) → ShowsValue p f (first ts) e x.node → ShowsArguments (behind_first ts) es xs → ShowsArguments ts (e ∷ es) (x ∷ xs)

  -- what is assigned to what has the type, if it is known, or is done for its own sake
  pub data ShowsRight : Option CType → Expr → Tree → Type 0 where
    ShowsCall : (to : Option CType) (e g : Expr) (args : List Expr) (x : At Tree) (xs : List (At Tree)) → out-Expr e ≡ one.Call g args → ShowsExpr p f g x.node → ShowsArguments (parameters_of (type_of p f.locals g)) args xs →
        ShowsRight to e (tree.Call x xs)
    ShowsIntrinsic : (to : Option CType) (e : Expr) (i : Intr) (at : ℕ) → out-Expr e ≡ one.Intr i None → ShowsRight to e (tree.Call (record { at = at; node = tree.Named (intrinsic_name p.roles i) }) [])
    ShowsIntrinsicOf : (to : Option CType) (e a : Expr) (i : Intr) (at : ℕ) (x : At Tree) → out-Expr e ≡ one.Intr i (Some a) → ShowsValue p f None a x.node →
        ShowsRight to e (tree.Call (record { at = at; node = tree.Named (intrinsic_name p.roles i) }) (x ∷ []))
    AnotherValue : (to : Option CType) (e : Expr) (x : Tree) → ShowsValue p f to e x → ShowsRight to e x

  -- an expression statement
  pub data ShowsEffect : Expr → Tree → Type 0 where
    ShowsAssignment : (e : Expr) (a : Place) (r : Expr) (x y : At Tree) → out-Expr e ≡ one.Assign a r → ShowsPlace p f a x.node → ShowsRight (taker (place_type p f.locals a)) r y.node → ShowsEffect e (tree.Assign m.Assign x y)
    ShowsDone : (e : Expr) (x : Tree) → ShowsRight None e x → ShowsEffect e x
