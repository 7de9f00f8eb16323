-- Statements whose expressions are folded, as reading a program leaves them.
use Rattle.std.specs.Prelude.{Bool, true, ◌&&◌, List, map, Option, Some, None}
use Rattle.std.specs.List.{list_all}
use Rattle.cc_program.specs.CcNum.declared.target.Target.{Target}
use Rattle.cc_program.specs.declared.expr.Expr.{Expr}
use Rattle.cc_program.specs.declared.program.Program.{Program}
use Rattle.cc_program.specs.declared.stmt.Stmt.{Stmt, fold-Stmt}
use Rattle.cc_program.specs.declared.stmt.Stmt.TheOpen as is
use Rattle.cc_eval.specs.CcSyntax.Folding.{is_folded}

module _ (target : Target) where
  abbrev pub is_optional_folded : Option Expr → Bool
  is_optional_folded None = true
  is_optional_folded (Some e) = is_folded target e

  abbrev pub folded_step : is.Stmt-F Bool Bool → Bool
  folded_step (is.Do e) = is_folded target e
  folded_step (is.If e a b) = is_folded target e && (list_all (λ b. b) a && list_all (λ b. b) b)
  folded_step (is.While e a) = is_folded target e && list_all (λ b. b) a
  folded_step (is.DoWhile a e) = is_folded target e && list_all (λ b. b) a
  folded_step (is.For first test step a) = is_optional_folded first && (is_optional_folded test && (is_optional_folded step && list_all (λ b. b) a))
  folded_step (is.Switch e cases) = is_folded target e && list_all (λ b. b) cases
  folded_step is.Break = true
  folded_step is.Continue = true
  folded_step (is.Return e) = is_optional_folded e
  folded_step is.Empty = true
  folded_step (is.Block a) = list_all (λ b. b) a

  unfoldable pub is_folded_stmt : Stmt → Bool
  is_folded_stmt s = fold-Stmt Bool Bool folded_step (λ c. list_all (λ b. b) c.body) s

  abbrev pub are_folded : List Stmt → Bool
  are_folded list = list_all (λ b. b) (map is_folded_stmt list)

-- those of each function of a program are such
abbrev pub has_folded_expressions : Program → Bool
has_folded_expressions p = list_all (λ f. are_folded p.target f.body) p.funcs
