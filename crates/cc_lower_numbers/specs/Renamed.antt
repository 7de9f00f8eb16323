-- Expressions and statements with other numbers of locals and devices; all else is the same.
use Rattle.std.specs.Prelude.{ℕ, List, option_map, unwrap_or, slice_get}
use Rattle.cc_program.specs.declared.expr.Expr.{Expr, roll-Expr, fold-Expr}
use Rattle.cc_program.specs.declared.expr.Expr.TheOpen as one
use Rattle.cc_program.specs.declared.expr.Place.{Place, roll-Place, fold-Place}
use Rattle.cc_program.specs.declared.stmt.Case.{Case, roll-Case, fold-Case}
use Rattle.cc_program.specs.declared.stmt.Stmt.{Stmt, roll-Stmt, fold-Stmt}
use Rattle.cc_program.specs.declared.stmt.Stmt.TheOpen as is

-- the number that a table has for one; what it has none for stays
abbrev pub number_at : List ℕ → ℕ → ℕ
number_at numbers i = unwrap_or (slice_get numbers i) i

module _ (local device : ℕ → ℕ) where
  abbrev pub place_with : one.Place-F Expr Place → one.Place-F Expr Place
  place_with (one.Local r) = one.Local (local r)
  place_with (one.Device d) = one.Device (device d)
  place_with (one.Static i) = one.Static i
  place_with (one.Element a i) = one.Element a i
  place_with (one.Member a m) = one.Member a m
  place_with (one.Deref e) = one.Deref e

  abbrev pub place_step : one.Place-F Expr Place → Place
  place_step a = roll-Place (place_with a)

  unfoldable pub expr_renamed : Expr → Expr
  expr_renamed e = fold-Expr Expr Place roll-Expr place_step e

  unfoldable pub place_renamed : Place → Place
  place_renamed a = fold-Place Expr Place roll-Expr place_step a

  abbrev pub stmt_with : is.Stmt-F Stmt Case → is.Stmt-F Stmt Case
  stmt_with (is.Do e) = is.Do (expr_renamed e)
  stmt_with (is.If e a b) = is.If (expr_renamed e) a b
  stmt_with (is.While e a) = is.While (expr_renamed e) a
  stmt_with (is.DoWhile a e) = is.DoWhile a (expr_renamed e)
  stmt_with (is.For first test again a) = is.For (option_map expr_renamed first) (option_map expr_renamed test) (option_map expr_renamed again) a
  stmt_with (is.Switch e cases) = is.Switch (expr_renamed e) cases
  stmt_with is.Break = is.Break
  stmt_with is.Continue = is.Continue
  stmt_with (is.Return e) = is.Return (option_map expr_renamed e)
  stmt_with is.Empty = is.Empty
  stmt_with (is.Block a) = is.Block a

  abbrev pub stmt_step : is.Stmt-F Stmt Case → Stmt
  stmt_step s = roll-Stmt (stmt_with s)

  unfoldable pub stmt_renamed : Stmt → Stmt
  stmt_renamed s = fold-Stmt Stmt Case stmt_step roll-Case s

  unfoldable pub case_renamed : Case → Case
  case_renamed c = fold-Case Stmt Case stmt_step roll-Case c
