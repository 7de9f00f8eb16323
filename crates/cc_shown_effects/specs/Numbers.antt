-- Statements with the numbers that a translation unit gives to structures, objects, devices and functions.
use Rattle.std.specs.Prelude.{option_map}
use Rattle.cc_program.specs.declared.stmt.Case.{Case, roll-Case, fold-Case}
use Rattle.cc_program.specs.declared.stmt.Stmt.{Stmt, Do, If, While, DoWhile, For, Switch, Break, Continue, Return, Empty, Block, fold-Stmt}
use Rattle.cc_program.specs.declared.stmt.Stmt.TheOpen as is
use Rattle.cc_shown_expressions.specs.OperationNumbers.{Numbers, expr_numbered}

module _ (n : Numbers) where
  abbrev pub stmt_step : is.Stmt-F Stmt Case → Stmt
  stmt_step (is.Do e) = Do (expr_numbered n e)
  stmt_step (is.If e a b) = If (expr_numbered n e) a b
  stmt_step (is.While e a) = While (expr_numbered n e) a
  stmt_step (is.DoWhile a e) = DoWhile a (expr_numbered n e)
  stmt_step (is.For first test again a) = For (option_map (expr_numbered n) first) (option_map (expr_numbered n) test) (option_map (expr_numbered n) again) a
  stmt_step (is.Switch e cases) = Switch (expr_numbered n e) cases
  stmt_step is.Break = Break
  stmt_step is.Continue = Continue
  stmt_step (is.Return e) = Return (option_map (expr_numbered n) e)
  stmt_step is.Empty = Empty
  stmt_step (is.Block a) = Block a

  abbrev pub case_step : is.Case-F Stmt Case → Case
  case_step c = roll-Case c

  unfoldable pub stmt_numbered : Stmt → Stmt
  stmt_numbered s = fold-Stmt Stmt Case stmt_step case_step s

  unfoldable pub case_numbered : Case → Case
  case_numbered c = fold-Case Stmt Case stmt_step case_step c
