-- Statements with other expressions; all else is the same.
use Rattle.std.specs.Prelude.{option_map}
use Rattle.cc_program.specs.declared.expr.Expr.{Expr}
use Rattle.cc_program.specs.declared.stmt.Case.{Case, roll-Case, fold-Case}
use Rattle.cc_program.specs.declared.stmt.Stmt.{Stmt, roll-Stmt, fold-Stmt}
use Rattle.cc_program.specs.declared.stmt.Stmt.TheOpen as is

module _ (expr : Expr → Expr) where
  abbrev pub stmt_with : is.Stmt-F Stmt Case → is.Stmt-F Stmt Case
  stmt_with (is.Do e) = is.Do (expr e)
  stmt_with (is.If e a b) = is.If (expr e) a b
  stmt_with (is.While e a) = is.While (expr e) a
  stmt_with (is.DoWhile a e) = is.DoWhile a (expr e)
  stmt_with (is.For first test again a) = is.For (option_map expr first) (option_map expr test) (option_map expr again) a
  stmt_with (is.Switch e cases) = is.Switch (expr e) cases
  stmt_with is.Break = is.Break
  stmt_with is.Continue = is.Continue
  stmt_with (is.Return e) = is.Return (option_map expr e)
  stmt_with is.Empty = is.Empty
  stmt_with (is.Block a) = is.Block a

  abbrev pub stmt_step : is.Stmt-F Stmt Case → Stmt
  stmt_step s = roll-Stmt (stmt_with s)

  unfoldable pub stmt_by : Stmt → Stmt
  stmt_by s = fold-Stmt Stmt Case stmt_step roll-Case s

  unfoldable pub case_by : Case → Case
  case_by c = fold-Case Stmt Case stmt_step roll-Case c
