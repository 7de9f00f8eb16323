-- Programs whose statements can be lowered without temporaries: a `continue` of a `do` would go to a test in the middle of the loop that the
-- `do` becomes, so there is none, unless the test is a constant other than 0 and goes.
use Rattle.std.specs.Prelude.{◌≡◌, Bool, true, false, not, ◌&&◌, List}
use Rattle.std.specs.List.{list_all}
use Rattle.cc_program.specs.declared.program.Program.{Program}
use Rattle.cc_program.specs.declared.stmt.Case.{Case, fold-Case}
use Rattle.cc_program.specs.declared.stmt.Stmt.{Stmt, fold-Stmt}
use Rattle.cc_program.specs.declared.stmt.Stmt.TheOpen as is
use Rattle.cc_lower_statements.specs.Statements.{is_nonzero_constant}

-- whether a statement has no `continue` of a `do` whose test may fail, by whether the innermost loop around it is such a `do`
abbrev pub Fitness : Type 0
Fitness = Bool → Bool

abbrev pub all_are_fit : List Fitness → Fitness
all_are_fit list inside = list_all (λ f. f inside) list

abbrev pub is_fit_in : is.Stmt-F Fitness Fitness → Fitness
is_fit_in (is.Do e) inside = true
is_fit_in (is.If e these those) inside = all_are_fit these inside && all_are_fit those inside
is_fit_in (is.While e body) inside = all_are_fit body false
is_fit_in (is.DoWhile body e) inside = all_are_fit body (not (is_nonzero_constant e))
is_fit_in (is.For first test again body) inside = all_are_fit body false
is_fit_in (is.Switch e cases) inside = all_are_fit cases inside
is_fit_in is.Break inside = true
is_fit_in is.Continue inside = not inside
is_fit_in (is.Return e) inside = true
is_fit_in is.Empty inside = true
is_fit_in (is.Block body) inside = all_are_fit body inside

unfoldable pub is_fit : Stmt → Fitness
is_fit s = fold-Stmt Fitness Fitness is_fit_in (λ c. all_are_fit c.body) s

unfoldable pub is_case_fit : Case → Fitness
is_case_fit c = fold-Case Fitness Fitness is_fit_in (λ c. all_are_fit c.body) c

abbrev pub are_fit : Bool → List Stmt → Bool
are_fit inside list = list_all (λ s. is_fit s inside) list

abbrev pub IsFit : Program → Type 0
IsFit p = list_all (λ f. are_fit false f.body) p.funcs ≡ true
