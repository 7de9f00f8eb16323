-- The locals whose addresses are taken in an expression, a statement and a body, as a list, one for each time.
use Rattle.std.specs.Prelude.{ℕ, nat_eq, Bool, List, [], ◌∷◌, ◌++◌, map, Option, Some, None}
use Rattle.std.specs.List.{list_any, flat_map}
use Rattle.cc_program.specs.declared.expr.Expr.{Expr, fold-Expr}
use Rattle.cc_program.specs.declared.expr.Expr.TheOpen as one
use Rattle.cc_program.specs.declared.expr.Place.{Place, fold-Place}
use Rattle.cc_program.specs.declared.stmt.Stmt.{Stmt, fold-Stmt}
use Rattle.cc_program.specs.declared.stmt.Stmt.TheOpen as is

abbrev pub among : List ℕ → ℕ → Bool
among list local = list_any (λ n. nat_eq n local) list

abbrev pub listed : Option ℕ → List ℕ
listed None = []
listed (Some local) = local ∷ []

abbrev pub in_operand : Option (List ℕ) → List ℕ
in_operand None = []
in_operand (Some a) = a

abbrev pub all_of : List (List ℕ) → List ℕ
all_of lists = flat_map (λ list. list) lists

-- of a place: the local that it is, if it is one, and the locals whose addresses are taken in its operands
pub record PlaceTaken : Type 0 where
  pub local : Option ℕ
  pub inside : List ℕ

abbrev pub inside_of : List ℕ → PlaceTaken
inside_of list = record { local = None; inside = list }

abbrev pub taken_step : one.Expr-F (List ℕ) PlaceTaken → List ℕ
taken_step (one.Const n t) = []
taken_step (one.Null t) = []
taken_step (one.FuncAddr f) = []
taken_step (one.Load a) = a.inside
taken_step (one.AddrOf a) = listed a.local ++ a.inside
taken_step (one.Un o t a) = a
taken_step (one.Bin o t a b) = a ++ b
taken_step (one.Conv t a) = a
taken_step (one.Qualify t a) = a
taken_step (one.Move a b back) = a ++ b
taken_step (one.Gap a b) = a ++ b
taken_step (one.Compare o a b) = a ++ b
taken_step (one.Both a b) = a ++ b
taken_step (one.Either a b) = a ++ b
taken_step (one.Choose c a b) = c ++ (a ++ b)
taken_step (one.Assign a e) = a.inside ++ e
taken_step (one.Change a o t e) = a.inside ++ e
taken_step (one.After a down) = a.inside
taken_step (one.Call f args) = f ++ all_of args
taken_step (one.Intr i a) = in_operand a
taken_step (one.Seq a b) = a ++ b

abbrev pub place_taken_step : one.Place-F (List ℕ) PlaceTaken → PlaceTaken
place_taken_step (one.Local r) = record { local = Some r; inside = [] }
place_taken_step (one.Static i) = inside_of []
place_taken_step (one.Device d) = inside_of []
place_taken_step (one.Element a i) = inside_of (a.inside ++ i)
place_taken_step (one.Member a m) = inside_of a.inside
place_taken_step (one.Deref e) = inside_of e

unfoldable pub taken_in : Expr → List ℕ
taken_in e = fold-Expr (List ℕ) PlaceTaken taken_step place_taken_step e

unfoldable pub place_taken_in : Place → PlaceTaken
place_taken_in a = fold-Place (List ℕ) PlaceTaken taken_step place_taken_step a

abbrev pub taken_if : Option Expr → List ℕ
taken_if None = []
taken_if (Some e) = taken_in e

abbrev pub stmt_taken_step : is.Stmt-F (List ℕ) (List ℕ) → List ℕ
stmt_taken_step (is.Do e) = taken_in e
stmt_taken_step (is.If e a b) = taken_in e ++ (all_of a ++ all_of b)
stmt_taken_step (is.While e a) = taken_in e ++ all_of a
stmt_taken_step (is.DoWhile a e) = all_of a ++ taken_in e
stmt_taken_step (is.For first test step a) = taken_if first ++ (taken_if test ++ (taken_if step ++ all_of a))
stmt_taken_step (is.Switch e cases) = taken_in e ++ all_of cases
stmt_taken_step is.Break = []
stmt_taken_step is.Continue = []
stmt_taken_step (is.Return e) = taken_if e
stmt_taken_step is.Empty = []
stmt_taken_step (is.Block a) = all_of a

unfoldable pub taken_by : Stmt → List ℕ
taken_by s = fold-Stmt (List ℕ) (List ℕ) stmt_taken_step (λ c. all_of c.body) s

abbrev pub taken_by_all : List Stmt → List ℕ
taken_by_all list = all_of (map taken_by list)
