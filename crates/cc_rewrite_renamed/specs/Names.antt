-- Which static objects expressions, statements and first values name: whether a test holds of all of them.
use Rattle.std.specs.Prelude.{ℕ, Bool, true, ◌&&◌, List, Option, Some, None}
use Rattle.std.specs.List.{list_all}
use Rattle.cc_program.specs.declared.expr.Expr.{Expr, fold-Expr}
use Rattle.cc_program.specs.declared.expr.Expr.TheOpen as one
use Rattle.cc_program.specs.declared.expr.Place.{Place, fold-Place}
use Rattle.cc_program.specs.declared.stmt.Case.{Case, fold-Case}
use Rattle.cc_program.specs.declared.stmt.Stmt.{Stmt, fold-Stmt}
use Rattle.cc_program.specs.declared.stmt.Stmt.TheOpen as is
use Rattle.cc_program.specs.declared.value.Address.{Address}
use Rattle.cc_program.specs.declared.value.Address.TheVariants as address
use Rattle.cc_program.specs.declared.value.Leaf.{Leaf}
use Rattle.cc_program.specs.declared.value.Leaf.TheVariants as leaf
use Rattle.cc_program.specs.declared.value.Root.{Root}
use Rattle.cc_program.specs.declared.value.Root.TheVariants as root

abbrev pub all_of : List Bool → Bool
all_of bs = list_all (λ b. b) bs

abbrev pub if_any : Option Bool → Bool
if_any None = true
if_any (Some b) = b

module _ (test : ℕ → Bool) where
  -- ---- expressions and places

  abbrev pub expr_step : one.Expr-F Bool Bool → Bool
  expr_step (one.Const n t) = true
  expr_step (one.Null t) = true
  expr_step (one.FuncAddr f) = true
  expr_step (one.Load a) = a
  expr_step (one.AddrOf a) = a
  expr_step (one.Un o t a) = a
  expr_step (one.Bin o t a b) = a && b
  expr_step (one.Conv t a) = a
  expr_step (one.Qualify t a) = a
  expr_step (one.Move a b back) = a && b
  expr_step (one.Gap a b) = a && b
  expr_step (one.Compare o a b) = a && b
  expr_step (one.Both a b) = a && b
  expr_step (one.Either a b) = a && b
  expr_step (one.Choose c a b) = c && (a && b)
  expr_step (one.Assign a e) = a && e
  expr_step (one.Change a o t e) = a && e
  expr_step (one.After a down) = a
  expr_step (one.Call f args) = f && all_of args
  expr_step (one.Intr i a) = if_any a
  expr_step (one.Seq a b) = a && b

  abbrev pub place_step : one.Place-F Bool Bool → Bool
  place_step (one.Local r) = true
  place_step (one.Static i) = test i
  place_step (one.Device d) = true
  place_step (one.Element a i) = a && i
  place_step (one.Member a m) = a
  place_step (one.Deref e) = e

  unfoldable pub names_in_expr : Expr → Bool
  names_in_expr e = fold-Expr Bool Bool expr_step place_step e

  unfoldable pub names_in_place : Place → Bool
  names_in_place a = fold-Place Bool Bool expr_step place_step a

  -- ---- statements

  abbrev pub names_in_optional : Option Expr → Bool
  names_in_optional None = true
  names_in_optional (Some e) = names_in_expr e

  abbrev pub stmt_step : is.Stmt-F Bool Bool → Bool
  stmt_step (is.Do e) = names_in_expr e
  stmt_step (is.If e a b) = names_in_expr e && (all_of a && all_of b)
  stmt_step (is.While e a) = names_in_expr e && all_of a
  stmt_step (is.DoWhile a e) = all_of a && names_in_expr e
  stmt_step (is.For first test again a) = names_in_optional first && (names_in_optional test && (names_in_optional again && all_of a))
  stmt_step (is.Switch e cases) = names_in_expr e && all_of cases
  stmt_step is.Break = true
  stmt_step is.Continue = true
  stmt_step (is.Return e) = names_in_optional e
  stmt_step is.Empty = true
  stmt_step (is.Block a) = all_of a

  unfoldable pub names_in_stmt : Stmt → Bool
  names_in_stmt s = fold-Stmt Bool Bool stmt_step (λ c. all_of c.body) s

  unfoldable pub names_in_case : Case → Bool
  names_in_case c = fold-Case Bool Bool stmt_step (λ c. all_of c.body) c

  -- ---- first values

  abbrev pub names_in_root : Root → Bool
  names_in_root (root.Static i) = test i
  names_in_root (root.Auto number func local) = true

  abbrev pub names_in_address : Address → Bool
  names_in_address address.Null = true
  names_in_address (address.Func g) = true
  names_in_address (address.At o path index count) = names_in_root o

  abbrev pub names_in_leaf : Leaf → Bool
  names_in_leaf (leaf.Int n) = true
  names_in_leaf (leaf.Place a) = names_in_address a
