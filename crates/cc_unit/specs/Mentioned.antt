-- Which objects, devices and functions a function's body or an object's first value speaks of: those that it needs.
use Rattle.std.specs.Prelude.{ℕ, List, [], ◌∷◌, ◌++◌, map, flat_map, Option, Some, None}
use Rattle.cc_program.specs.declared.expr.Expr.{Expr, fold-Expr}
use Rattle.cc_program.specs.declared.expr.Expr.TheOpen as one
use Rattle.cc_program.specs.declared.expr.Place.{Place, fold-Place}
use Rattle.cc_program.specs.declared.func.Func.{Func}
use Rattle.cc_program.specs.declared.stmt.Case.{Case, fold-Case}
use Rattle.cc_program.specs.declared.stmt.Stmt.{Stmt, fold-Stmt}
use Rattle.cc_program.specs.declared.stmt.Stmt.TheOpen as is
use Rattle.cc_program.specs.declared.value.Address.{Address}
use Rattle.cc_program.specs.declared.value.Address.TheVariants as address
use Rattle.cc_program.specs.declared.value.Leaf.{Leaf}
use Rattle.cc_program.specs.declared.value.Leaf.TheVariants as leaf
use Rattle.cc_program.specs.declared.value.Root.{Root}
use Rattle.cc_program.specs.declared.value.Root.TheVariants as root
use Rattle.cc_unit.specs.declared.unit.UnitKind.{UnitKind}
use Rattle.cc_unit.specs.declared.unit.UnitKind.TheVariants as kind
use Rattle.cc_unit.specs.declared.unit.UnitName.{UnitName}

abbrev pub of_missing : Option (List ℕ) → List ℕ
of_missing None = []
of_missing (Some names) = names

abbrev pub all_of : List (List ℕ) → List ℕ
all_of lists = flat_map (λ l. l) lists

-- by their numbers, in the order of the text
abbrev pub expr_step : one.Expr-F (List ℕ) (List ℕ) → List ℕ
expr_step (one.Const n t) = []
expr_step (one.Null t) = []
expr_step (one.FuncAddr f) = f ∷ []
expr_step (one.Load a) = a
expr_step (one.AddrOf a) = a
expr_step (one.Un o t a) = a
expr_step (one.Bin o t a b) = a ++ b
expr_step (one.Conv t a) = a
expr_step (one.Qualify t a) = a
expr_step (one.Move a b back) = a ++ b
expr_step (one.Gap a b) = a ++ b
expr_step (one.Compare o a b) = a ++ b
expr_step (one.Both a b) = a ++ b
expr_step (one.Either a b) = a ++ b
expr_step (one.Choose c a b) = c ++ (a ++ b)
expr_step (one.Assign a e) = a ++ e
expr_step (one.Change a o t e) = a ++ e
expr_step (one.After a down) = a
expr_step (one.Call f args) = f ++ all_of args
expr_step (one.Intr i a) = of_missing a
expr_step (one.Seq a b) = a ++ b

abbrev pub place_step : one.Place-F (List ℕ) (List ℕ) → List ℕ
place_step (one.Local n) = []
place_step (one.Static i) = i ∷ []
place_step (one.Device d) = d ∷ []
place_step (one.Element a i) = a ++ i
place_step (one.Member a m) = a
place_step (one.Deref e) = e

unfoldable pub in_expr : Expr → List ℕ
in_expr e = fold-Expr (List ℕ) (List ℕ) expr_step place_step e

unfoldable pub in_place : Place → List ℕ
in_place p = fold-Place (List ℕ) (List ℕ) expr_step place_step p

abbrev pub in_maybe : Option Expr → List ℕ
in_maybe None = []
in_maybe (Some e) = in_expr e

abbrev pub stmt_step : is.Stmt-F (List ℕ) (List ℕ) → List ℕ
stmt_step (is.Do e) = in_expr e
stmt_step (is.If e a b) = in_expr e ++ (all_of a ++ all_of b)
stmt_step (is.While e a) = in_expr e ++ all_of a
stmt_step (is.DoWhile a e) = all_of a ++ in_expr e
stmt_step (is.For first test again a) = in_maybe first ++ (in_maybe test ++ (in_maybe again ++ all_of a))
stmt_step (is.Switch e cases) = in_expr e ++ all_of cases
stmt_step is.Break = []
stmt_step is.Continue = []
stmt_step (is.Return e) = in_maybe e
stmt_step is.Empty = []
stmt_step (is.Block a) = all_of a

abbrev pub case_step : is.Case-F (List ℕ) (List ℕ) → List ℕ
case_step c = all_of c.body

unfoldable pub in_stmt : Stmt → List ℕ
in_stmt s = fold-Stmt (List ℕ) (List ℕ) stmt_step case_step s

unfoldable pub in_case : Case → List ℕ
in_case c = fold-Case (List ℕ) (List ℕ) stmt_step case_step c

abbrev pub in_root : Root → List ℕ
in_root (root.Static i) = i ∷ []
in_root (root.Auto activation f local) = []

abbrev pub in_address : Address → List ℕ
in_address address.Null = []
in_address (address.Func f) = f ∷ []
in_address (address.At object path index count) = in_root object

abbrev pub in_leaf : Leaf → List ℕ
in_leaf (leaf.Int n) = []
in_leaf (leaf.Place a) = in_address a

abbrev pub in_func : Option Func → List ℕ
in_func None = []
in_func (Some f) = all_of (map in_stmt f.body)

abbrev pub in_kind : UnitKind → List ℕ
in_kind (kind.Object init) = flat_map in_leaf init
in_kind (kind.Device d) = []
in_kind (kind.Func entry f) = in_func f

-- what all names of a source speak of
abbrev pub mentioned : List UnitName → List ℕ
mentioned names = flat_map (λ n. in_kind n.kind) names
