-- Statements with flags are folded where their sources are.
use Rattle.std.proofs.Common.{◌≡◌, ℕ, Bool, true, false, ◌+◌, ◌&&◌, List, [], ◌∷◌, map, refl, ap, sym, ◌∙◌}
use Rattle.std.specs.Prelude.{pos}
use Rattle.std.specs.List.{list_all}
use Rattle.cc_program.specs.CcNum.declared.int_type.IntType.TheVariants as int
use Rattle.cc_program.specs.CcNum.declared.target.Target.{Target}
use Rattle.cc_program.specs.declared.expr.Expr.{Expr, roll-Expr}
use Rattle.cc_program.specs.declared.expr.Place.{roll-Place}
use Rattle.cc_program.specs.declared.expr.Expr.TheOpen as one
use Rattle.cc_program.specs.declared.func.Func.{Func}
use Rattle.cc_program.specs.declared.program.Program.{Program}
use Rattle.cc_program.specs.declared.stmt.Case.{Case, roll-Case, out-roll-Case}
use Rattle.cc_program.specs.declared.stmt.Stmt.{Stmt, roll-Stmt, out-roll-Stmt}
use Rattle.cc_program.specs.declared.stmt.Stmt.TheOpen as is
use Rattle.cc_program.proofs.Each.{Each}
use Rattle.cc_program.proofs.StmtInduction.{StmtParts, CaseParts, by_stmts}
use Rattle.cc_lower_continues.specs.Continues.{Flagging, CaseFlagging, all_become, any_continues, assign_flag, case_flagging, case_flagging_in, cases_become, do_flagging, flagged_body, flagged_do, flagged_func, flagged_program, flagging, flags_in, leave_unless, needs_flag, new_body, read_flag, test_but_first}
use Rattle.cc_lower_continues.proofs.Layers.{flagging_layer, flagging-out, case_flagging-out}
use Rattle.cc_lower_statements.specs.Statements.{break_statement, constant_one, endless_loop}
use Rattle.cc_eval.specs.CcSyntax.Folding.{Folding, is_folded, is_folded_place}
use Rattle.cc_lower_sound.specs.Folded.{is_optional_folded, is_folded_stmt, are_folded, has_folded_expressions}
use Rattle.cc_lower_sound.proofs.Bools.{two, first_true, second_true}
use Rattle.cc_lower_sound.proofs.NormalBodies.{folded_case, folded_at, folded-stmt-roll, folded-case-roll}
use Rattle.cc_lower_sound.proofs.NormalReading.{folding-roll, place-folding-roll}

module _ (target : Target) where
  abbrev IsFolded : Stmt → Type 0
  IsFolded s = is_folded_stmt target s ≡ true

  abbrev AreFolded : List Stmt → Type 0
  AreFolded list = are_folded target list ≡ true

  here : (x : is.Stmt-F Stmt Case) → folded_at target x ≡ true → IsFolded (roll-Stmt x)
  here x h = folded-stmt-roll target x ∙ h

  pair : (a b : Bool) → a ≡ true → b ≡ true → a && (b && true) ≡ true
  pair a b h k = two a (b && true) h (two b true k refl)

  only : (a : Bool) → a ≡ true → a && true ≡ true
  only a h = two a true h refl

  -- ---- flags

  constant_folded : (n : ℕ) → is_folded target (roll-Expr (one.Const (pos n) int.UChar)) ≡ true
  constant_folded n = ap (λ (z : Folding). z.is_folded) (folding-roll target (one.Const (pos n) int.UChar))

  one_folded : is_folded target constant_one ≡ true
  one_folded = ap (λ (z : Folding). z.is_folded) (folding-roll target (one.Const (pos 1) int.Int))

  flag_folded : (t : ℕ) → is_folded_place target (roll-Place (one.Local t)) ≡ true
  flag_folded t = place-folding-roll target (one.Local t)

  assign_folded : (t n : ℕ) → IsFolded (assign_flag t n)
  assign_folded t n =
      here (is.Do (roll-Expr (one.Assign (roll-Place (one.Local t)) (roll-Expr (one.Const (pos n) int.UChar)))))
      (ap (λ (z : Folding). z.is_folded) (folding-roll target (one.Assign (roll-Place (one.Local t)) (roll-Expr (one.Const (pos n) int.UChar))))
      ∙ two (is_folded_place target (roll-Place (one.Local t))) (is_folded target (roll-Expr (one.Const (pos n) int.UChar))) (flag_folded t) (constant_folded n))

  read_folded : (t : ℕ) → is_folded target (read_flag t) ≡ true
  read_folded t = ap (λ (z : Folding). z.is_folded) (folding-roll target (one.Load (roll-Place (one.Local t)))) ∙ flag_folded t

  leave_folded : (e : Expr) → is_folded target e ≡ true → IsFolded (leave_unless e)
  leave_folded e h = here (is.If e [] (break_statement ∷ [])) (two (is_folded target e) (is_folded_stmt target break_statement && true) h (only (is_folded_stmt target break_statement) (here is.Break refl)))

  test_folded : (t : ℕ) (e : Expr) → is_folded target e ≡ true → IsFolded (test_but_first t e)
  test_folded t e h =
      here (is.If (read_flag t) (assign_flag t 0 ∷ []) (leave_unless e ∷ []))
      (two (is_folded target (read_flag t)) ((is_folded_stmt target (assign_flag t 0) && true) && (is_folded_stmt target (leave_unless e) && true)) (read_folded t)
      (two (is_folded_stmt target (assign_flag t 0) && true) (is_folded_stmt target (leave_unless e) && true) (only (is_folded_stmt target (assign_flag t 0)) (assign_folded t 0)) (only (is_folded_stmt target (leave_unless e)) (leave_folded e h))))

  do_folded : (t : ℕ) (e : Expr) (body : List Stmt) → is_folded target e ≡ true → AreFolded body → IsFolded (flagged_do t e body)
  do_folded t e body h k =
      here (is.Block (assign_flag t 1 ∷ endless_loop (flagged_body t e body) ∷ []))
      (pair (is_folded_stmt target (assign_flag t 1)) (is_folded_stmt target (endless_loop (flagged_body t e body))) (assign_folded t 1)
      (here (is.While constant_one (flagged_body t e body)) (two (is_folded target constant_one) (are_folded target (flagged_body t e body)) one_folded (two (is_folded_stmt target (test_but_first t e)) (are_folded target body) (test_folded t e h) k))))

  -- ---- all statements

  abbrev Becomes : Stmt → Type 0
  Becomes s = IsFolded s → (n : ℕ) → IsFolded ((flagging s).becomes n)

  abbrev CaseBecomes : Case → Type 0
  CaseBecomes c = folded_case target c ≡ true → (n : ℕ) → folded_case target ((case_flagging c).becomes n) ≡ true

  list_becomes : (l : List Stmt) → Each Becomes l → AreFolded l → (n : ℕ) → AreFolded (all_become (map flagging l) n)
  list_becomes [] q h n = refl
  list_becomes (s ∷ l) q h n =
      two (is_folded_stmt target ((flagging s).becomes n)) (are_folded target (all_become (map flagging l) (n + (flagging s).flags))) (q.0 (first_true (is_folded_stmt target s) (are_folded target l) h) n)
      (list_becomes l q.1 (second_true (is_folded_stmt target s) (are_folded target l) h) (n + (flagging s).flags))

  abbrev all_cases : List Case → Bool
  all_cases l = list_all (λ b. b) (map (folded_case target) l)

  cases_becomes : (l : List Case) → Each CaseBecomes l → all_cases l ≡ true → (n : ℕ) → all_cases (cases_become (map case_flagging l) n) ≡ true
  cases_becomes [] q h n = refl
  cases_becomes (c ∷ l) q h n =
      two (folded_case target ((case_flagging c).becomes n)) (all_cases (cases_become (map case_flagging l) (n + (case_flagging c).flags))) (q.0 (first_true (folded_case target c) (all_cases l) h) n)
      (cases_becomes l q.1 (second_true (folded_case target c) (all_cases l) h) (n + (case_flagging c).flags))

  do_becomes : (b : Bool) (body : List Stmt) (e : Expr) → Each Becomes body → is_folded target e ≡ true → AreFolded body → (n : ℕ) → IsFolded ((do_flagging b (map flagging body) e).becomes n)
  do_becomes true body e q h k n = do_folded n e (all_become (map flagging body) (n + 1)) h (list_becomes body q k (n + 1))
  do_becomes false body e q h k n =
      here (is.DoWhile (all_become (map flagging body) n) e) (two (is_folded target e) (are_folded target (all_become (map flagging body) n)) h (list_becomes body q k n))

  layer : (x : is.Stmt-F Stmt Case) → StmtParts Becomes CaseBecomes x → folded_at target x ≡ true → (n : ℕ) → IsFolded ((flagging_layer x).becomes n)
  layer (is.Do e) q h n = here (is.Do e) h
  layer (is.If e a d) q h n =
      let r = second_true (is_folded target e) (are_folded target a && are_folded target d) h in
      let m : ℕ = n + flags_in (map flagging a) in
      here (is.If e (all_become (map flagging a) n) (all_become (map flagging d) m))
      (two (is_folded target e) (are_folded target (all_become (map flagging a) n) && are_folded target (all_become (map flagging d) m)) (first_true (is_folded target e) (are_folded target a && are_folded target d) h)
      (two (are_folded target (all_become (map flagging a) n)) (are_folded target (all_become (map flagging d) m)) (list_becomes a q.0 (first_true (are_folded target a) (are_folded target d) r) n) (list_becomes d q.1 (second_true (are_folded target a) (are_folded target d) r) m)))
  layer (is.While e a) q h n =
      here (is.While e (all_become (map flagging a) n)) (two (is_folded target e) (are_folded target (all_become (map flagging a) n)) (first_true (is_folded target e) (are_folded target a) h) (list_becomes a q (second_true (is_folded target e) (are_folded target a) h) n))
  layer (is.DoWhile a e) q h n = do_becomes (needs_flag (any_continues (map flagging a)) e) a e q (first_true (is_folded target e) (are_folded target a) h) (second_true (is_folded target e) (are_folded target a) h) n
  layer (is.For first test again a) q h n =
      let r = second_true (is_optional_folded target first) (is_optional_folded target test && (is_optional_folded target again && are_folded target a)) h in
      let s = second_true (is_optional_folded target test) (is_optional_folded target again && are_folded target a) r in
      let new : Bool = are_folded target (all_become (map flagging a) n) in
      here (is.For first test again (all_become (map flagging a) n))
      (two (is_optional_folded target first) (is_optional_folded target test && (is_optional_folded target again && new)) (first_true (is_optional_folded target first) (is_optional_folded target test && (is_optional_folded target again && are_folded target a)) h)
      (two (is_optional_folded target test) (is_optional_folded target again && new) (first_true (is_optional_folded target test) (is_optional_folded target again && are_folded target a) r)
      (two (is_optional_folded target again) new (first_true (is_optional_folded target again) (are_folded target a) s) (list_becomes a q (second_true (is_optional_folded target again) (are_folded target a) s) n))))
  layer (is.Switch e cases) q h n =
      here (is.Switch e (cases_become (map case_flagging cases) n))
      (two (is_folded target e) (all_cases (cases_become (map case_flagging cases) n)) (first_true (is_folded target e) (all_cases cases) h) (cases_becomes cases q (second_true (is_folded target e) (all_cases cases) h) n))
  layer is.Break q h n = here is.Break refl
  layer is.Continue q h n = here is.Continue refl
  layer (is.Return e) q h n = here (is.Return e) h
  layer is.Empty q h n = here is.Empty refl
  layer (is.Block a) q h n = here (is.Block (all_become (map flagging a) n)) (list_becomes a q h n)

  level : (x : is.Stmt-F Stmt Case) → StmtParts Becomes CaseBecomes x → Becomes (roll-Stmt x)
  level x q h n =
      ap (λ (z : Flagging). is_folded_stmt target (z.becomes n)) (flagging-out (roll-Stmt x) ∙ ap flagging_layer (out-roll-Stmt x)) ∙ layer x q (sym (folded-stmt-roll target x) ∙ h) n

  case_level : (x : is.Case-F Stmt Case) → CaseParts Becomes CaseBecomes x → CaseBecomes (roll-Case x)
  case_level x q h n =
      ap (λ (z : CaseFlagging). folded_case target (z.becomes n)) (case_flagging-out (roll-Case x) ∙ ap (λ (y : is.Case-F Stmt Case). case_flagging_in (record { labels = y.labels; body = map flagging y.body })) (out-roll-Case x))
      ∙ folded-case-roll target (record { labels = x.labels; body = all_become (map flagging x.body) n })
      ∙ list_becomes x.body q (sym (folded-case-roll target x) ∙ h) n

  body_folded : (f : Func) → AreFolded f.body → AreFolded (new_body f)
  body_folded f h = list_becomes f.body (by_stmts Becomes CaseBecomes level case_level f.body) h _

  funcs_folded : (funcs : List Func) → list_all (λ (f : Func). are_folded target f.body) funcs ≡ true → list_all (λ (f : Func). are_folded target f.body) (map flagged_func funcs) ≡ true
  funcs_folded [] h = refl
  funcs_folded (f ∷ funcs) h =
      two (are_folded target (new_body f)) (list_all (λ (f : Func). are_folded target f.body) (map flagged_func funcs)) (body_folded f (first_true (are_folded target f.body) (list_all (λ (f : Func). are_folded target f.body) funcs) h))
      (funcs_folded funcs (second_true (are_folded target f.body) (list_all (λ (f : Func). are_folded target f.body) funcs) h))

pub flagged_folded : (p : Program) → has_folded_expressions p ≡ true → has_folded_expressions (flagged_program p) ≡ true
flagged_folded p h = funcs_folded p.target p.funcs h
