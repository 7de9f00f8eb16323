-- What lists of statements, cases and arms of a function become, by a word each.
use Rattle.std.specs.Prelude.{List}
use Rattle.cc_program.specs.declared.expr.Expr.{Expr}
use Rattle.cc_program.specs.declared.func.Func.{Func}
use Rattle.cc_program.specs.declared.program.Program.{Program}
use Rattle.cc_program.specs.declared.stmt.Case.{Case}
use Rattle.cc_program.specs.declared.stmt.Stmt.{Stmt}
use Rattle.cc_eval.specs.CcSyntax.Effects.{no_one}
use Rattle.cc_lower_accesses.specs.Modes.{operand_of}
use Rattle.cc_lower_expressions.specs.Expressions.{Make, ◌>>=◌, fork}
use Rattle.cc_lower_expressions.specs.Statements.{condition, lower_list, lower_cases}

module _ (p : Program) (f : Func) where
  unfoldable pub list_made : List Stmt → Make (Unit {0})
  list_made list = lower_list p f list

  unfoldable pub cases_made : List Case → Make (List Case)
  cases_made cases = lower_cases p f cases

  -- an `if` without `else`, and one with an `else`
  unfoldable pub guarded_of : Expr → List Stmt → Make (Unit {0})
  guarded_of e these = (condition p f e).guard no_one (lower_list p f these)

  unfoldable pub forked_of : Expr → List Stmt → List Stmt → Make (Unit {0})
  forked_of e these those = operand_of p f e no_one >>= (λ v. fork v (lower_list p f these) (lower_list p f those))
