-- Lowered statements are folded where their sources are.
use Rattle.std.proofs.Common.{◌≡◌, Bool, true, false, ◌&&◌, List, [], ◌∷◌, ◌++◌, map, Option, Some, None, refl, ap, sym, ◌∙◌, subst}
use Rattle.std.specs.Prelude.{pos}
use Rattle.std.specs.List.{list_all}
use Rattle.cc_program.specs.CcNum.declared.int_type.IntType.TheVariants as int
use Rattle.cc_program.specs.CcNum.declared.target.Target.{Target}
use Rattle.cc_program.specs.declared.expr.Expr.{Expr}
use Rattle.cc_program.specs.declared.expr.Expr.TheOpen as term
use Rattle.cc_program.specs.declared.func.Func.{Func}
use Rattle.cc_program.specs.declared.program.Program.{Program}
use Rattle.cc_program.specs.declared.stmt.Case.{Case, roll-Case, out-roll-Case}
use Rattle.cc_program.specs.declared.stmt.Stmt.{Stmt, roll-Stmt, out-roll-Stmt}
use Rattle.cc_program.specs.declared.stmt.Stmt.TheOpen as is
use Rattle.cc_program.proofs.Each.{Each}
use Rattle.cc_program.proofs.StmtInduction.{StmtParts, CaseParts, by_stmts}
use Rattle.cc_lower_statements.specs.Statements.{break_statement, constant_one, is_nonzero_constant, needed_test, needed_test_if, optional_statement, guarded, endless_loop, lower, lower_case, lower_list, lower_cases, lower_func, lower_program}
use Rattle.cc_lower_statements.proofs.Layers.{lower_layer, lower-out, lower_case-out}
use Rattle.cc_eval.specs.CcSyntax.Folding.{Folding, is_folded}
use Rattle.cc_lower_sound.specs.Folded.{is_optional_folded, is_folded_stmt, are_folded, has_folded_expressions}
use Rattle.cc_lower_sound.proofs.Bools.{two, first_true, second_true}
use Rattle.cc_lower_sound.proofs.NormalBodies.{folded_case, folded_at, folded-stmt-roll, folded-case-roll}
use Rattle.cc_lower_sound.proofs.NormalReading.{folding-roll}

module _ (target : Target) where
  abbrev AreFolded : List Stmt → Type 0
  AreFolded list = are_folded target list ≡ true

  one : (x : is.Stmt-F Stmt Case) → folded_at target x ≡ true → AreFolded (roll-Stmt x ∷ [])
  one x h = two (is_folded_stmt target (roll-Stmt x)) true (folded-stmt-roll target x ∙ h) refl

  append : (xs ys : List Stmt) → AreFolded xs → AreFolded ys → AreFolded (xs ++ ys)
  append [] ys h k = k
  append (x ∷ xs) ys h k =
      two (is_folded_stmt target x) (are_folded target (xs ++ ys)) (first_true (is_folded_stmt target x) (are_folded target xs) h) (append xs ys (second_true (is_folded_stmt target x) (are_folded target xs) h) k)

  one-folded : is_folded target constant_one ≡ true
  one-folded = ap (λ (z : Folding). z.is_folded) (folding-roll target (term.Const (pos 1) int.Int))

  optional_folded : (x : Option Expr) → is_optional_folded target x ≡ true → AreFolded (optional_statement x)
  optional_folded None h = refl
  optional_folded (Some e) h = one (is.Do e) h

  endless_folded : (turn : List Stmt) → AreFolded turn → AreFolded (endless_loop turn ∷ [])
  endless_folded turn h = one (is.While constant_one turn) (two (is_folded target constant_one) (are_folded target turn) one-folded h)

  guarded_folded : (x : Option Expr) (turn : List Stmt) → is_optional_folded target x ≡ true → AreFolded turn → AreFolded (guarded (needed_test x) turn)
  guarded_folded None turn h k = k
  guarded_folded (Some e) turn h k = by_kept (is_nonzero_constant e)
    where
      by_kept : (o : Bool) → AreFolded (guarded (needed_test_if o e) turn)
      by_kept true = k
      by_kept false = one (is.If e turn (break_statement ∷ [])) (two (is_folded target e) (are_folded target turn && are_folded target (break_statement ∷ [])) h (two (are_folded target turn) (are_folded target (break_statement ∷ [])) k (one is.Break refl)))

  abbrev Becomes : Stmt → Type 0
  Becomes s = is_folded_stmt target s ≡ true → (before : List Stmt) → AreFolded before → AreFolded (lower s before)

  abbrev CaseBecomes : Case → Type 0
  CaseBecomes c = folded_case target c ≡ true → (before : List Stmt) → AreFolded before → folded_case target (lower_case c before) ≡ true

  all_become : (l : List Stmt) → Each Becomes l → AreFolded l → (before : List Stmt) → AreFolded before → AreFolded (lower_list l before)
  all_become [] q h before w = refl
  all_become (s ∷ l) q h before w =
      append (lower s before) (lower_list l before) (q.0 (first_true (is_folded_stmt target s) (are_folded target l) h) before w) (all_become l q.1 (second_true (is_folded_stmt target s) (are_folded target l) h) before w)

  abbrev all_cases : List Case → Bool
  all_cases l = list_all (λ b. b) (map (folded_case target) l)

  cases_become : (l : List Case) → Each CaseBecomes l → all_cases l ≡ true → (before : List Stmt) → AreFolded before → all_cases (lower_cases l before) ≡ true
  cases_become [] q h before w = refl
  cases_become (c ∷ l) q h before w =
      two (folded_case target (lower_case c before)) (all_cases (lower_cases l before)) (q.0 (first_true (folded_case target c) (all_cases l) h) before w) (cases_become l q.1 (second_true (folded_case target c) (all_cases l) h) before w)

  layer : (x : is.Stmt-F Stmt Case) → StmtParts Becomes CaseBecomes x → folded_at target x ≡ true → (before : List Stmt) → AreFolded before → AreFolded (lower_layer x before)
  layer (is.Do e) q h before w = one (is.Do e) h
  layer (is.If e a d) q h before w =
      let r = second_true (is_folded target e) (are_folded target a && are_folded target d) h in
      one (is.If e (lower_list a before) (lower_list d before)) (two (is_folded target e) (are_folded target (lower_list a before) && are_folded target (lower_list d before)) (first_true (is_folded target e) (are_folded target a && are_folded target d) h)
      (two (are_folded target (lower_list a before)) (are_folded target (lower_list d before)) (all_become a q.0 (first_true (are_folded target a) (are_folded target d) r) before w) (all_become d q.1 (second_true (are_folded target a) (are_folded target d) r) before w)))
  layer (is.While e a) q h before w =
      endless_folded (guarded (needed_test (Some e)) (lower_list a [])) (guarded_folded (Some e) (lower_list a []) (first_true (is_folded target e) (are_folded target a) h) (all_become a q (second_true (is_folded target e) (are_folded target a) h) [] refl))
  layer (is.DoWhile a e) q h before w =
      endless_folded (lower_list a [] ++ guarded (needed_test (Some e)) [])
      (append (lower_list a []) (guarded (needed_test (Some e)) []) (all_become a q (second_true (is_folded target e) (are_folded target a) h) [] refl) (guarded_folded (Some e) [] (first_true (is_folded target e) (are_folded target a) h) refl))
  layer (is.For first test again a) q h before w =
      let r = second_true (is_optional_folded target first) (is_optional_folded target test && (is_optional_folded target again && are_folded target a)) h in
      let s = second_true (is_optional_folded target test) (is_optional_folded target again && are_folded target a) r in
      let step = optional_folded again (first_true (is_optional_folded target again) (are_folded target a) s) in
      let turn : List Stmt = lower_list a (optional_statement again) ++ optional_statement again in
      append (optional_statement first) (endless_loop (guarded (needed_test test) turn) ∷ []) (optional_folded first (first_true (is_optional_folded target first) (is_optional_folded target test && (is_optional_folded target again && are_folded target a)) h))
      (endless_folded (guarded (needed_test test) turn) (guarded_folded test turn (first_true (is_optional_folded target test) (is_optional_folded target again && are_folded target a) r)
      (append (lower_list a (optional_statement again)) (optional_statement again) (all_become a q (second_true (is_optional_folded target again) (are_folded target a) s) (optional_statement again) step) step)))
  layer (is.Switch e cases) q h before w =
      one (is.Switch e (lower_cases cases before)) (two (is_folded target e) (all_cases (lower_cases cases before)) (first_true (is_folded target e) (all_cases cases) h) (cases_become cases q (second_true (is_folded target e) (all_cases cases) h) before w))
  layer is.Break q h before w = one is.Break refl
  layer is.Continue q h before w = append before (roll-Stmt is.Continue ∷ []) w (one is.Continue refl)
  layer (is.Return e) q h before w = one (is.Return e) h
  layer is.Empty q h before w = refl
  layer (is.Block a) q h before w = all_become a q h before w

  level : (x : is.Stmt-F Stmt Case) → StmtParts Becomes CaseBecomes x → Becomes (roll-Stmt x)
  level x q h before w =
      subst AreFolded (sym (lower-out (roll-Stmt x) before ∙ ap (λ (y : is.Stmt-F Stmt Case). lower_layer y before) (out-roll-Stmt x))) (layer x q (sym (folded-stmt-roll target x) ∙ h) before w)

  case_level : (x : is.Case-F Stmt Case) → CaseParts Becomes CaseBecomes x → CaseBecomes (roll-Case x)
  case_level x q h before w =
      ap (folded_case target) (lower_case-out (roll-Case x) before ∙ ap (λ (y : is.Case-F Stmt Case). roll-Case (record { labels = y.labels; body = lower_list y.body before })) (out-roll-Case x))
      ∙ folded-case-roll target (record { labels = x.labels; body = lower_list x.body before })
      ∙ all_become x.body q (sym (folded-case-roll target x) ∙ h) before w

  body_folded : (l : List Stmt) → AreFolded l → AreFolded (lower_list l [])
  body_folded l h = all_become l (by_stmts Becomes CaseBecomes level case_level l) h [] refl

  funcs_folded : (funcs : List Func) → list_all (λ (f : Func). are_folded target f.body) funcs ≡ true → list_all (λ (f : Func). are_folded target f.body) (map lower_func funcs) ≡ true
  funcs_folded [] h = refl
  funcs_folded (f ∷ funcs) h =
      two (are_folded target (lower_list f.body [])) (list_all (λ (f : Func). are_folded target f.body) (map lower_func funcs)) (body_folded f.body (first_true (are_folded target f.body) (list_all (λ (f : Func). are_folded target f.body) funcs) h))
      (funcs_folded funcs (second_true (are_folded target f.body) (list_all (λ (f : Func). are_folded target f.body) funcs) h))

pub lowered_folded : (p : Program) → has_folded_expressions p ≡ true → has_folded_expressions (lower_program p) ≡ true
lowered_folded p h = funcs_folded p.target p.funcs h
