-- What lowering does with each kind of statement: the fold, opened at one level.
use Rattle.std.proofs.Common.{◌≡◌, List, [], ◌∷◌, ◌++◌, map, Some, refl, ap, sym, ◌∙◌, append_assoc}
use Rattle.cc_program.specs.declared.stmt.Case.{Case, out-Case, roll-Case, fold_out-Case}
use Rattle.cc_program.specs.declared.stmt.Stmt.{Stmt, out-Stmt, roll-Stmt, map-Stmt, fold_out-Stmt}
use Rattle.cc_program.specs.declared.stmt.Stmt.TheOpen as is
use Rattle.cc_lower_statements.specs.Statements.{expression_statement, break_statement, endless_loop, guarded, needed_test, optional_statement, Lowering, CaseLowering, lower_each, lower_each_case, lower_in, lower_case_in, lower, lower_case, lower_list, lower_cases}

-- one level of a statement, lowered
abbrev pub lower_layer : is.Stmt-F Stmt Case → List Stmt → List Stmt
lower_layer (is.Do e) step = expression_statement e ∷ []
lower_layer (is.If e a b) step = roll-Stmt (is.If e (lower_list a step) (lower_list b step)) ∷ []
lower_layer (is.While e a) step = endless_loop (guarded (needed_test (Some e)) (lower_list a [])) ∷ []
lower_layer (is.DoWhile a e) step = endless_loop (lower_list a [] ++ guarded (needed_test (Some e)) []) ∷ []
lower_layer (is.For first test again a) step =
    optional_statement first ++ endless_loop (guarded (needed_test test) (lower_list a (optional_statement again) ++ optional_statement again)) ∷ []
lower_layer (is.Switch e cases) step = roll-Stmt (is.Switch e (lower_cases cases step)) ∷ []
lower_layer is.Break step = break_statement ∷ []
lower_layer is.Continue step = step ++ roll-Stmt is.Continue ∷ []
lower_layer (is.Return e) step = roll-Stmt (is.Return e) ∷ []
lower_layer is.Empty step = []
lower_layer (is.Block a) step = lower_list a step

each-list : (list : List Stmt) (step : List Stmt) → lower_each (map lower list) step ≡ lower_list list step
each-list [] step = refl
each-list (s ∷ list) step = rw (each-list list step) refl

each-cases : (cases : List Case) (step : List Stmt) → lower_each_case (map lower_case cases) step ≡ lower_cases cases step
each-cases [] step = refl
each-cases (c ∷ cases) step = rw (each-cases cases step) refl

lower_open : (x : is.Stmt-F Stmt Case) (step : List Stmt) → lower_in (map-Stmt Stmt Case Lowering CaseLowering lower lower_case x) step ≡ lower_layer x step
lower_open (is.Do e) step = refl
lower_open (is.If e a b) step = rw (each-list a step, each-list b step) refl
lower_open (is.While e a) step = rw (each-list a []) refl
lower_open (is.DoWhile a e) step = rw (each-list a []) refl
lower_open (is.For first test again a) step = rw (each-list a (optional_statement again)) refl
lower_open (is.Switch e cases) step = rw (each-cases cases step) refl
lower_open is.Break step = refl
lower_open is.Continue step = refl
lower_open (is.Return e) step = refl
lower_open is.Empty step = refl
lower_open (is.Block a) step = each-list a step

pub lower-out : (s : Stmt) (step : List Stmt) → lower s step ≡ lower_layer (out-Stmt s) step
unfolding lower lower_case
lower-out s step = ap (λ (f : Lowering). f step) (fold_out-Stmt Lowering CaseLowering lower_in lower_case_in s) ∙ lower_open (out-Stmt s) step

pub lower_case-out : (c : Case) (step : List Stmt) → lower_case c step ≡ roll-Case (record { labels = (out-Case c).labels; body = lower_list (out-Case c).body step })
unfolding lower lower_case
lower_case-out c step =
    ap (λ (f : CaseLowering). f step) (fold_out-Case Lowering CaseLowering lower_in lower_case_in c)
    ∙ ap (λ (body : List Stmt). roll-Case (record { labels = (out-Case c).labels; body = body })) (each-list (out-Case c).body step)

pub lower_list-append : (xs ys : List Stmt) (step : List Stmt) → lower_list (xs ++ ys) step ≡ lower_list xs step ++ lower_list ys step
lower_list-append [] ys step = refl
lower_list-append (x ∷ xs) ys step = ap (λ l. lower x step ++ l) (lower_list-append xs ys step) ∙ sym (append_assoc (lower x step) (lower_list xs step) (lower_list ys step))
