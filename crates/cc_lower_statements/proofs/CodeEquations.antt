-- What lowering does with each kind of statement, as the code makes it.
use Rattle.std.proofs.Common.{◌≡◌, ◌<◌, ◌+◌, ℕ, List, [], ◌∷◌, ◌++◌, length, take, get_or, Option, Some, None, refl, ap, sym, ◌∙◌, append_assoc}
use Rattle.std.specs.Prelude.{pos}
use Rattle.std.proofs.lemmas.List.{append-nil, take_more, take_all}
use Rattle.cc_program.specs.CcNum.declared.int_type.IntType.TheVariants as int
use Rattle.cc_program.specs.declared.expr.Expr.{Expr, Const}
use Rattle.cc_program.specs.declared.expr.Expr.TheVariants.{rolls-Const}
use Rattle.cc_program.specs.declared.stmt.Case.{Case, out-Case, roll-Case}
use Rattle.cc_program.specs.declared.stmt.Stmt.{Stmt, Do, If, While, DoWhile, For, Switch, Break, Continue, Return, Empty, Block}
use Rattle.cc_program.specs.declared.stmt.Stmt.TheVariants.{rolls-Do, rolls-If, rolls-While, rolls-Switch, rolls-Break, rolls-Continue, rolls-Return, outs-Do, outs-If, outs-While, outs-DoWhile, outs-For, outs-Switch, outs-Break, outs-Continue, outs-Return, outs-Empty, outs-Block}
use Rattle.cc_program.specs.declared.stmt.Stmt.TheOpen as is
use Rattle.cc_lower_statements.specs.Statements.{expression_statement, break_statement, constant_one, endless_loop, guarded, needed_test, optional_statement, lower, lower_case, lower_list, lower_cases}
use Rattle.cc_lower_statements.proofs.Layers.{lower_layer, lower-out, lower_case-out, lower_list-append}

pub expression_statement-is : (e : Expr) → expression_statement e ≡ Do e
expression_statement-is e = rolls-Do e

pub break_statement-is : break_statement ≡ Break
break_statement-is = rolls-Break

pub endless_loop-is : (body : List Stmt) → endless_loop body ≡ While (Const (pos 1) int.Int) body
endless_loop-is body = rolls-While constant_one body ∙ ap (λ (e : Expr). While e body) (rolls-Const (pos 1) int.Int)

pub guarded-is : (e : Expr) (body : List Stmt) → guarded (Some e) body ≡ If e body (Break ∷ []) ∷ []
guarded-is e body = ap (λ (s : Stmt). s ∷ []) (rolls-If e body (break_statement ∷ []) ∙ ap (λ (s : Stmt). If e body (s ∷ [])) rolls-Break)

pub lower-Do : (e : Expr) (k : List Stmt) → lower (Do e) k ≡ Do e ∷ []
lower-Do e k = lower-out (Do e) k ∙ ap (λ (x : is.Stmt-F Stmt Case). lower_layer x k) (outs-Do e) ∙ ap (λ (s : Stmt). s ∷ []) (rolls-Do e)

pub lower-If : (e : Expr) (a b k : List Stmt) → lower (If e a b) k ≡ If e (lower_list a k) (lower_list b k) ∷ []
lower-If e a b k = lower-out (If e a b) k ∙ ap (λ (x : is.Stmt-F Stmt Case). lower_layer x k) (outs-If e a b) ∙ ap (λ (s : Stmt). s ∷ []) (rolls-If e (lower_list a k) (lower_list b k))

pub lower-While : (e : Expr) (a k : List Stmt) → lower (While e a) k ≡ endless_loop (guarded (needed_test (Some e)) (lower_list a [])) ∷ []
lower-While e a k = lower-out (While e a) k ∙ ap (λ (x : is.Stmt-F Stmt Case). lower_layer x k) (outs-While e a)

pub lower-DoWhile : (a : List Stmt) (e : Expr) (k : List Stmt) → lower (DoWhile a e) k ≡ endless_loop (lower_list a [] ++ guarded (needed_test (Some e)) []) ∷ []
lower-DoWhile a e k = lower-out (DoWhile a e) k ∙ ap (λ (x : is.Stmt-F Stmt Case). lower_layer x k) (outs-DoWhile a e)

pub lower-For : (first test again : Option Expr) (a k : List Stmt) →
    lower (For first test again a) k ≡ optional_statement first ++ endless_loop (guarded (needed_test test) (lower_list a (optional_statement again) ++ optional_statement again)) ∷ []
lower-For first test again a k = lower-out (For first test again a) k ∙ ap (λ (x : is.Stmt-F Stmt Case). lower_layer x k) (outs-For first test again a)

pub lower-Switch : (e : Expr) (cases : List Case) (k : List Stmt) → lower (Switch e cases) k ≡ Switch e (lower_cases cases k) ∷ []
lower-Switch e cases k = lower-out (Switch e cases) k ∙ ap (λ (x : is.Stmt-F Stmt Case). lower_layer x k) (outs-Switch e cases) ∙ ap (λ (s : Stmt). s ∷ []) (rolls-Switch e (lower_cases cases k))

pub lower-Break : (k : List Stmt) → lower Break k ≡ Break ∷ []
lower-Break k = lower-out Break k ∙ ap (λ (x : is.Stmt-F Stmt Case). lower_layer x k) outs-Break ∙ ap (λ (s : Stmt). s ∷ []) rolls-Break

pub lower-Continue : (k : List Stmt) → lower Continue k ≡ k ++ Continue ∷ []
lower-Continue k = lower-out Continue k ∙ ap (λ (x : is.Stmt-F Stmt Case). lower_layer x k) outs-Continue ∙ ap (λ (s : Stmt). k ++ s ∷ []) rolls-Continue

pub lower-Return : (e : Option Expr) (k : List Stmt) → lower (Return e) k ≡ Return e ∷ []
lower-Return e k = lower-out (Return e) k ∙ ap (λ (x : is.Stmt-F Stmt Case). lower_layer x k) (outs-Return e) ∙ ap (λ (s : Stmt). s ∷ []) (rolls-Return e)

pub lower-Empty : (k : List Stmt) → lower Empty k ≡ []
lower-Empty k = lower-out Empty k ∙ ap (λ (x : is.Stmt-F Stmt Case). lower_layer x k) outs-Empty

pub lower-Block : (a k : List Stmt) → lower (Block a) k ≡ lower_list a k
lower-Block a k = lower-out (Block a) k ∙ ap (λ (x : is.Stmt-F Stmt Case). lower_layer x k) (outs-Block a)

-- a list, as far as a loop has come
pub list-more : (xs k : List Stmt) (i : ℕ) (d : Stmt) → i < length xs → lower_list (take (i + 1) xs) k ≡ lower_list (take i xs) k ++ lower (get_or xs i d) k
list-more xs k i d h =
    ap (λ (l : List Stmt). lower_list l k) (take_more xs i d h) ∙ lower_list-append (take i xs) (get_or xs i d ∷ []) k ∙ ap (λ (l : List Stmt). lower_list (take i xs) k ++ l) (append-nil (lower (get_or xs i d) k))

pub cases-append : (xs ys : List Case) (k : List Stmt) → lower_cases (xs ++ ys) k ≡ lower_cases xs k ++ lower_cases ys k
cases-append [] ys k = refl
cases-append (x ∷ xs) ys k = ap (λ (l : List Case). lower_case x k ∷ l) (cases-append xs ys k)

pub cases-more : (xs : List Case) (k : List Stmt) (i : ℕ) (d : Case) → i < length xs → lower_cases (take (i + 1) xs) k ≡ lower_cases (take i xs) k ++ lower_case (get_or xs i d) k ∷ []
cases-more xs k i d h = ap (λ (l : List Case). lower_cases l k) (take_more xs i d h) ∙ cases-append (take i xs) (get_or xs i d ∷ []) k

pub ruleset made_statements = (expression_statement-is, break_statement-is, endless_loop-is, guarded-is)

pub ruleset lowered_statements = (lower-Do, lower-If, lower-While, lower-DoWhile, lower-For, lower-Switch, lower-Break, lower-Continue, lower-Return, lower-Empty, lower-Block)

-- a case, as the code makes it
pub lower_case-is : (c : Case) (k : List Stmt) → lower_case c k ≡ roll-Case (record { labels = (out-Case c).labels; body = lower_list (out-Case c).body k })
lower_case-is c k = lower_case-out c k

pub ruleset lowered_cases = (lower_case-is)

pub ruleset list_rules = (list-more, cases-more, take_all, append_assoc, append-nil)
