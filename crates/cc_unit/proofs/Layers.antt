-- What each form of statement speaks of.
use Rattle.std.proofs.Common.{◌≡◌, ◌∙◌, ℕ, List, [], ◌∷◌, ◌++◌, Option, refl, ap, sym, map, append_assoc}
use Rattle.std.proofs.lemmas.List.{append-nil}
use Rattle.cc_program.specs.declared.expr.Expr.{Expr}
use Rattle.cc_program.specs.declared.stmt.Case.{Case, out-Case, fold_out-Case}
use Rattle.cc_program.specs.declared.stmt.Stmt.{Stmt, Do, If, While, DoWhile, For, Switch, Break, Continue, Return, Empty, Block, fold-roll-Stmt}
use Rattle.cc_program.specs.declared.stmt.Stmt.TheVariants.{rolls-Do, rolls-If, rolls-While, rolls-DoWhile, rolls-For, rolls-Switch, rolls-Break, rolls-Continue, rolls-Return, rolls-Empty, rolls-Block}
use Rattle.cc_program.specs.declared.stmt.Stmt.TheOpen as is
use Rattle.cc_unit.specs.Mentioned.{all_of, in_expr, in_maybe, stmt_step, case_step, in_stmt, in_case}
use Rattle.cc_unit.proofs.Behind.{all_of_more}

pub in_stmt-Do : (e : Expr) → in_stmt (Do e) ≡ in_expr e
unfolding in_stmt
in_stmt-Do e = ap in_stmt (sym (rolls-Do e)) ∙ fold-roll-Stmt (List ℕ) (List ℕ) stmt_step case_step (is.Do e)

pub in_stmt-If : (e : Expr) (a b : List Stmt) → in_stmt (If e a b) ≡ in_expr e ++ (all_of (map in_stmt a) ++ all_of (map in_stmt b))
unfolding in_stmt
in_stmt-If e a b = ap in_stmt (sym (rolls-If e a b)) ∙ fold-roll-Stmt (List ℕ) (List ℕ) stmt_step case_step (is.If e a b)

pub in_stmt-While : (e : Expr) (a : List Stmt) → in_stmt (While e a) ≡ in_expr e ++ all_of (map in_stmt a)
unfolding in_stmt
in_stmt-While e a = ap in_stmt (sym (rolls-While e a)) ∙ fold-roll-Stmt (List ℕ) (List ℕ) stmt_step case_step (is.While e a)

pub in_stmt-DoWhile : (a : List Stmt) (e : Expr) → in_stmt (DoWhile a e) ≡ all_of (map in_stmt a) ++ in_expr e
unfolding in_stmt
in_stmt-DoWhile a e = ap in_stmt (sym (rolls-DoWhile a e)) ∙ fold-roll-Stmt (List ℕ) (List ℕ) stmt_step case_step (is.DoWhile a e)

pub in_stmt-For : (first test again : Option Expr) (a : List Stmt) → in_stmt (For first test again a) ≡ in_maybe first ++ (in_maybe test ++ (in_maybe again ++ all_of (map in_stmt a)))
unfolding in_stmt
in_stmt-For first test again a = ap in_stmt (sym (rolls-For first test again a)) ∙ fold-roll-Stmt (List ℕ) (List ℕ) stmt_step case_step (is.For first test again a)

pub in_stmt-Switch : (e : Expr) (cases : List Case) → in_stmt (Switch e cases) ≡ in_expr e ++ all_of (map in_case cases)
unfolding in_stmt in_case
in_stmt-Switch e cases = ap in_stmt (sym (rolls-Switch e cases)) ∙ fold-roll-Stmt (List ℕ) (List ℕ) stmt_step case_step (is.Switch e cases)

pub in_stmt-Break : in_stmt Break ≡ []
unfolding in_stmt
in_stmt-Break = ap in_stmt (sym rolls-Break) ∙ fold-roll-Stmt (List ℕ) (List ℕ) stmt_step case_step is.Break

pub in_stmt-Continue : in_stmt Continue ≡ []
unfolding in_stmt
in_stmt-Continue = ap in_stmt (sym rolls-Continue) ∙ fold-roll-Stmt (List ℕ) (List ℕ) stmt_step case_step is.Continue

pub in_stmt-Return : (e : Option Expr) → in_stmt (Return e) ≡ in_maybe e
unfolding in_stmt
in_stmt-Return e = ap in_stmt (sym (rolls-Return e)) ∙ fold-roll-Stmt (List ℕ) (List ℕ) stmt_step case_step (is.Return e)

pub in_stmt-Empty : in_stmt Empty ≡ []
unfolding in_stmt
in_stmt-Empty = ap in_stmt (sym rolls-Empty) ∙ fold-roll-Stmt (List ℕ) (List ℕ) stmt_step case_step is.Empty

pub in_stmt-Block : (a : List Stmt) → in_stmt (Block a) ≡ all_of (map in_stmt a)
unfolding in_stmt
in_stmt-Block a = ap in_stmt (sym (rolls-Block a)) ∙ fold-roll-Stmt (List ℕ) (List ℕ) stmt_step case_step (is.Block a)

pub in_case-is : (c : Case) → in_case c ≡ all_of (map in_stmt (out-Case c).body)
unfolding in_stmt in_case
in_case-is c = fold_out-Case (List ℕ) (List ℕ) stmt_step case_step c

-- what stands behind the clauses of a `for`
pub append_clauses : (old a b c d : List ℕ) → (old ++ (a ++ (b ++ c))) ++ d ≡ old ++ (a ++ (b ++ (c ++ d)))
append_clauses old a b c d =
    append_assoc old (a ++ (b ++ c)) d ∙ ap (λ l. old ++ l) (append_assoc a (b ++ c) d ∙ ap (λ l. a ++ l) (append_assoc b c d))

pub ruleset of_statements = (append_assoc, append_clauses, append-nil, all_of_more, in_stmt-Do, in_stmt-If, in_stmt-While, in_stmt-DoWhile, in_stmt-For, in_stmt-Switch, in_stmt-Break, in_stmt-Continue, in_stmt-Return, in_stmt-Empty, in_stmt-Block, in_case-is)
