-- Lowered statements have no loop but `while (1)`, no block and no empty statement.
use Rattle.std.proofs.Common.{◌≡◌, Bool, true, false, List, [], ◌∷◌, ◌++◌, map, Option, Some, None, refl, ap, sym, ◌∙◌, subst}
use Rattle.std.specs.Prelude.{pos}
use Rattle.std.specs.Ordering.{int_eq}
use Rattle.std.specs.List.{list_all}
use Rattle.cc_program.specs.CcNum.declared.int_type.IntType.TheVariants as int
use Rattle.cc_program.specs.declared.expr.Expr.{Expr, out-roll-Expr}
use Rattle.cc_program.specs.declared.expr.Expr.TheOpen as term
use Rattle.cc_program.specs.declared.expr.Place.{Place}
use Rattle.cc_program.specs.declared.func.Func.{Func}
use Rattle.cc_program.specs.declared.program.Program.{Program}
use Rattle.cc_program.specs.declared.stmt.Case.{Case, roll-Case, fold-Case, out-roll-Case, fold-roll-Case}
use Rattle.cc_program.specs.declared.stmt.Stmt.{Stmt, roll-Stmt, map-Stmt, out-roll-Stmt, fold-roll-Stmt}
use Rattle.cc_program.specs.declared.stmt.Stmt.TheOpen as is
use Rattle.cc_program.proofs.Each.{Each}
use Rattle.cc_program.proofs.StmtInduction.{StmtParts, CaseParts, by_stmts}
use Rattle.cc_lower_statements.specs.Statements.{break_statement, constant_one, is_nonzero_constant, needed_test, needed_test_if, optional_statement, guarded, endless_loop, lower, lower_case, lower_list, lower_cases, lower_func, lower_program}
use Rattle.cc_lower_statements.proofs.Layers.{lower_layer, lower-out, lower_case-out}
use Rattle.cc_eval.specs.CcSyntax.Forms.{form_at, form_of}
use Rattle.cc_eval.specs.CcSyntax.Normal.{is_one}
use Rattle.cc_eval.specs.CcSyntax.SameTypes.{same_int}
use Rattle.cc_eval.proofs.CcSyntax.SameLemmas.{int_itself}
use Rattle.cc_lower_sound.specs.Statements.{plain_step, is_plain, are_plain, has_plain_statements}
use Rattle.cc_lower_sound.proofs.Bools.{two, first_true, second_true}

abbrev pub case_plain : Case → Bool
case_plain c = fold-Case Bool Bool plain_step (λ c. list_all (λ b. b) c.body) c

abbrev pub plain_at : is.Stmt-F Stmt Case → Bool
plain_at x = plain_step (map-Stmt Stmt Case Bool Bool is_plain case_plain x)

pub plain-roll : (x : is.Stmt-F Stmt Case) → is_plain (roll-Stmt x) ≡ plain_at x
unfolding is_plain
plain-roll x = fold-roll-Stmt Bool Bool plain_step (λ c. list_all (λ b. b) c.body) x

pub case-plain-roll : (x : is.Case-F Stmt Case) → case_plain (roll-Case x) ≡ are_plain x.body
unfolding is_plain
case-plain-roll x = fold-roll-Case Bool Bool plain_step (λ c. list_all (λ b. b) c.body) x

abbrev ArePlain : List Stmt → Type 0
ArePlain list = are_plain list ≡ true

one : (x : is.Stmt-F Stmt Case) → plain_at x ≡ true → ArePlain (roll-Stmt x ∷ [])
one x h = two (is_plain (roll-Stmt x)) true (plain-roll x ∙ h) refl

append : (xs ys : List Stmt) → ArePlain xs → ArePlain ys → ArePlain (xs ++ ys)
append [] ys h k = k
append (x ∷ xs) ys h k = two (is_plain x) (are_plain (xs ++ ys)) (first_true (is_plain x) (are_plain xs) h) (append xs ys (second_true (is_plain x) (are_plain xs) h) k)

is-one : is_one (form_of constant_one) ≡ true
is-one = ap (λ (x : term.Expr-F Expr Place). is_one (form_at x)) (out-roll-Expr (term.Const (pos 1) int.Int)) ∙ two (int_eq (pos 1) (pos 1)) (same_int int.Int int.Int) refl (int_itself int.Int)

optional_plain : (x : Option Expr) → ArePlain (optional_statement x)
optional_plain None = refl
optional_plain (Some e) = one (is.Do e) refl

endless_plain : (turn : List Stmt) → ArePlain turn → ArePlain (endless_loop turn ∷ [])
endless_plain turn h = one (is.While constant_one turn) (two (is_one (form_of constant_one)) (are_plain turn) is-one h)

guarded_plain : (x : Option Expr) (turn : List Stmt) → ArePlain turn → ArePlain (guarded (needed_test x) turn)
guarded_plain None turn k = k
guarded_plain (Some e) turn k = by_kept (is_nonzero_constant e)
  where
    by_kept : (o : Bool) → ArePlain (guarded (needed_test_if o e) turn)
    by_kept true = k
    by_kept false = one (is.If e turn (break_statement ∷ [])) (two (are_plain turn) (are_plain (break_statement ∷ [])) k (one is.Break refl))

abbrev Becomes : Stmt → Type 0
Becomes s = (before : List Stmt) → ArePlain before → ArePlain (lower s before)

abbrev CaseBecomes : Case → Type 0
CaseBecomes c = (before : List Stmt) → ArePlain before → case_plain (lower_case c before) ≡ true

all_become : (l : List Stmt) → Each Becomes l → (before : List Stmt) → ArePlain before → ArePlain (lower_list l before)
all_become [] h before w = refl
all_become (s ∷ l) h before w = append (lower s before) (lower_list l before) (h.0 before w) (all_become l h.1 before w)

cases_become : (l : List Case) → Each CaseBecomes l → (before : List Stmt) → ArePlain before → list_all (λ b. b) (map case_plain (lower_cases l before)) ≡ true
cases_become [] h before w = refl
cases_become (c ∷ l) h before w = two (case_plain (lower_case c before)) (list_all (λ b. b) (map case_plain (lower_cases l before))) (h.0 before w) (cases_become l h.1 before w)

layer : (x : is.Stmt-F Stmt Case) → StmtParts Becomes CaseBecomes x → (before : List Stmt) → ArePlain before → ArePlain (lower_layer x before)
layer (is.Do e) h before w = one (is.Do e) refl
layer (is.If e a d) h before w = one (is.If e (lower_list a before) (lower_list d before)) (two (are_plain (lower_list a before)) (are_plain (lower_list d before)) (all_become a h.0 before w) (all_become d h.1 before w))
layer (is.While e a) h before w = endless_plain (guarded (needed_test (Some e)) (lower_list a [])) (guarded_plain (Some e) (lower_list a []) (all_become a h [] refl))
layer (is.DoWhile a e) h before w =
    endless_plain (lower_list a [] ++ guarded (needed_test (Some e)) []) (append (lower_list a []) (guarded (needed_test (Some e)) []) (all_become a h [] refl) (guarded_plain (Some e) [] refl))
layer (is.For first test again a) h before w =
    let turn : List Stmt = lower_list a (optional_statement again) ++ optional_statement again in
    append (optional_statement first) (endless_loop (guarded (needed_test test) turn) ∷ []) (optional_plain first)
    (endless_plain (guarded (needed_test test) turn) (guarded_plain test turn (append (lower_list a (optional_statement again)) (optional_statement again) (all_become a h (optional_statement again) (optional_plain again)) (optional_plain again))))
layer (is.Switch e cases) h before w = one (is.Switch e (lower_cases cases before)) (cases_become cases h before w)
layer is.Break h before w = one is.Break refl
layer is.Continue h before w = append before (roll-Stmt is.Continue ∷ []) w (one is.Continue refl)
layer (is.Return e) h before w = one (is.Return e) refl
layer is.Empty h before w = refl
layer (is.Block a) h before w = all_become a h before w

level : (x : is.Stmt-F Stmt Case) → StmtParts Becomes CaseBecomes x → Becomes (roll-Stmt x)
level x h before w =
    subst ArePlain (sym (lower-out (roll-Stmt x) before ∙ ap (λ (y : is.Stmt-F Stmt Case). lower_layer y before) (out-roll-Stmt x))) (layer x h before w)

case_level : (x : is.Case-F Stmt Case) → CaseParts Becomes CaseBecomes x → CaseBecomes (roll-Case x)
case_level x h before w =
    ap case_plain (lower_case-out (roll-Case x) before ∙ ap (λ (y : is.Case-F Stmt Case). roll-Case (record { labels = y.labels; body = lower_list y.body before })) (out-roll-Case x))
    ∙ case-plain-roll (record { labels = x.labels; body = lower_list x.body before })
    ∙ all_become x.body h before w

pub body_plain : (l : List Stmt) → are_plain (lower_list l []) ≡ true
body_plain l = all_become l (by_stmts Becomes CaseBecomes level case_level l) [] refl

funcs_plain : (funcs : List Func) → list_all (λ (f : Func). are_plain f.body) (map lower_func funcs) ≡ true
funcs_plain [] = refl
funcs_plain (f ∷ funcs) = two (are_plain (lower_list f.body [])) (list_all (λ (f : Func). are_plain f.body) (map lower_func funcs)) (body_plain f.body) (funcs_plain funcs)

pub lowered_plain : (p : Program) → has_plain_statements (lower_program p) ≡ true
lowered_plain p = funcs_plain p.funcs
