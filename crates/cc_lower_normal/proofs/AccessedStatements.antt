-- A device that is accessed is accessed where `do`s have flags, and where statements are lowered.
use Rattle.std.proofs.Common.{◌≡◌, ◌∙◌, ◌+◌, ◌||◌, ℕ, Bool, true, false, List, [], ◌∷◌, ◌++◌, map, length, Option, Some, None, refl, ap, sym}
use Rattle.std.specs.List.{list_any}
use Rattle.std.proofs.lemmas.Bool.{or_left, or_right}
use Rattle.cc_accessed_operands.specs.Accessed.{accesses, optional_accesses, stmt_accesses, list_accesses, is_accessed}
use Rattle.cc_accessed_operands.proofs.Accesses.{or_kept, or_either, no, case_accesses, cases_access, stmt_accesses_at, stmt-accesses-roll, case-accesses-roll, here, only, in_front, behind, accesses-roll}
use Rattle.cc_lower_continues.specs.Continues.{Flagging, CaseFlagging, all_become, any_continues, assign_flag, case_flagging, case_flagging_in, cases_become, do_flagging, flagged_body, flagged_do, flagged_func, flagged_program, flagging, flags_in, leave_unless, needs_flag, new_body, read_flag, test_but_first}
use Rattle.cc_lower_continues.proofs.Layers.{flagging_layer, flagging-out, case_flagging-out}
use Rattle.cc_lower_statements.specs.Statements.{break_statement, constant_one, is_nonzero_constant, is_nonzero_constant_in, needed_test, needed_test_if, optional_statement, guarded, endless_loop, lower, lower_case, lower_list, lower_cases, lower_func, lower_program}
use Rattle.cc_lower_statements.proofs.Layers.{lower_layer, lower-out, lower_case-out}
use Rattle.cc_program.specs.declared.expr.Expr.{Expr, out-Expr, roll-Expr, roll-out-Expr}
use Rattle.cc_program.specs.declared.expr.Expr.TheOpen as one
use Rattle.cc_program.specs.declared.expr.Place.{Place}
use Rattle.cc_program.specs.declared.func.Func.{Func}
use Rattle.cc_program.specs.declared.program.Program.{Program}
use Rattle.cc_program.specs.declared.stmt.Case.{Case, roll-Case, out-roll-Case}
use Rattle.cc_program.specs.declared.stmt.Stmt.{Stmt, roll-Stmt, out-roll-Stmt}
use Rattle.cc_program.specs.declared.stmt.Stmt.TheOpen as is
use Rattle.cc_program.proofs.Each.{Each}
use Rattle.cc_program.proofs.StmtInduction.{StmtParts, CaseParts, by_stmts}

module _ (d : ℕ) where
  abbrev acc : Expr → Bool
  acc e = accesses d e

  abbrev opt : Option Expr → Bool
  opt e = optional_accesses d e

  abbrev stm : Stmt → Bool
  stm s = stmt_accesses d s

  abbrev any : List Stmt → Bool
  any l = list_accesses d l

  abbrev cases : List Case → Bool
  cases l = cases_access d l

  abbrev case : Case → Bool
  case c = case_accesses d c

  endless : (turn : List Stmt) → any turn ≡ true → stm (endless_loop turn) ≡ true
  endless turn h = here d (is.While constant_one turn) (or_right (acc constant_one) (any turn) h)

  -- ---- flags

  test_kept : (t : ℕ) (e : Expr) → acc e ≡ true → stm (test_but_first t e) ≡ true
  test_kept t e h =
      here d (is.If (read_flag t) (assign_flag t 0 ∷ []) (leave_unless e ∷ []))
      (or_right (acc (read_flag t)) (any (assign_flag t 0 ∷ []) || any (leave_unless e ∷ []))
      (or_right (any (assign_flag t 0 ∷ [])) (any (leave_unless e ∷ [])) (only d (is.If e [] (break_statement ∷ [])) (or_left (acc e) (any [] || any (break_statement ∷ [])) h))))

  do_kept : (t : ℕ) (e : Expr) (body : List Stmt) → acc e || any body ≡ true → stm (flagged_do t e body) ≡ true
  do_kept t e body h =
      here d (is.Block (assign_flag t 1 ∷ endless_loop (flagged_body t e body) ∷ []))
      (or_right (stm (assign_flag t 1)) (any (endless_loop (flagged_body t e body) ∷ []))
      (or_left (stm (endless_loop (flagged_body t e body))) false
      (endless (flagged_body t e body) (or_kept (acc e) (any body) (stm (test_but_first t e)) (any body) (test_kept t e) (λ k. k) h))))

  abbrev Becomes : Stmt → Type 0
  Becomes s = (n : ℕ) → stm s ≡ true → stm ((flagging s).becomes n) ≡ true

  abbrev CaseBecomes : Case → Type 0
  CaseBecomes c = (n : ℕ) → case c ≡ true → case ((case_flagging c).becomes n) ≡ true

  list_becomes : (l : List Stmt) → Each Becomes l → (n : ℕ) → any l ≡ true → any (all_become (map flagging l) n) ≡ true
  list_becomes [] q n h = no h
  list_becomes (s ∷ l) q n h =
      or_kept (stm s) (any l) (stm ((flagging s).becomes n)) (any (all_become (map flagging l) (n + (flagging s).flags))) (q.0 n) (list_becomes l q.1 (n + (flagging s).flags)) h

  cases_becomes : (l : List Case) → Each CaseBecomes l → (n : ℕ) → cases l ≡ true → cases (cases_become (map case_flagging l) n) ≡ true
  cases_becomes [] q n h = no h
  cases_becomes (c ∷ l) q n h =
      or_kept (case c) (cases l) (case ((case_flagging c).becomes n)) (cases (cases_become (map case_flagging l) (n + (case_flagging c).flags))) (q.0 n) (cases_becomes l q.1 (n + (case_flagging c).flags)) h

  do_becomes : (b : Bool) (body : List Stmt) (e : Expr) → Each Becomes body → (n : ℕ) → acc e || any body ≡ true → stm ((do_flagging b (map flagging body) e).becomes n) ≡ true
  do_becomes true body e q n h =
      do_kept n e (all_become (map flagging body) (n + 1)) (or_kept (acc e) (any body) (acc e) (any (all_become (map flagging body) (n + 1))) (λ k. k) (list_becomes body q (n + 1)) h)
  do_becomes false body e q n h =
      here d (is.DoWhile (all_become (map flagging body) n) e) (or_kept (acc e) (any body) (acc e) (any (all_become (map flagging body) n)) (λ k. k) (list_becomes body q n) h)

  flagged_layer : (x : is.Stmt-F Stmt Case) → StmtParts Becomes CaseBecomes x → (n : ℕ) → stmt_accesses_at d x ≡ true → stm ((flagging_layer x).becomes n) ≡ true
  flagged_layer (is.Do e) q n h = here d (is.Do e) h
  flagged_layer (is.If e a b) q n h =
      let m : ℕ = n + flags_in (map flagging a) in
      here d (is.If e (all_become (map flagging a) n) (all_become (map flagging b) m))
      (or_kept (acc e) (any a || any b) (acc e) (any (all_become (map flagging a) n) || any (all_become (map flagging b) m)) (λ k. k)
      (or_kept (any a) (any b) (any (all_become (map flagging a) n)) (any (all_become (map flagging b) m)) (list_becomes a q.0 n) (list_becomes b q.1 m)) h)
  flagged_layer (is.While e a) q n h = here d (is.While e (all_become (map flagging a) n)) (or_kept (acc e) (any a) (acc e) (any (all_become (map flagging a) n)) (λ k. k) (list_becomes a q n) h)
  flagged_layer (is.DoWhile a e) q n h = do_becomes (needs_flag (any_continues (map flagging a)) e) a e q n h
  flagged_layer (is.For first test again a) q n h =
      let new : Bool = any (all_become (map flagging a) n) in
      here d (is.For first test again (all_become (map flagging a) n))
      (or_kept (opt first) (opt test || (opt again || any a)) (opt first) (opt test || (opt again || new)) (λ k. k)
      (or_kept (opt test) (opt again || any a) (opt test) (opt again || new) (λ k. k) (or_kept (opt again) (any a) (opt again) new (λ k. k) (list_becomes a q n))) h)
  flagged_layer (is.Switch e cs) q n h =
      here d (is.Switch e (cases_become (map case_flagging cs) n)) (or_kept (acc e) (cases cs) (acc e) (cases (cases_become (map case_flagging cs) n)) (λ k. k) (cases_becomes cs q n) h)
  flagged_layer is.Break q n h = no h
  flagged_layer is.Continue q n h = no h
  flagged_layer (is.Return e) q n h = here d (is.Return e) h
  flagged_layer is.Empty q n h = no h
  flagged_layer (is.Block a) q n h = here d (is.Block (all_become (map flagging a) n)) (list_becomes a q n h)

  flagged_level : (x : is.Stmt-F Stmt Case) → StmtParts Becomes CaseBecomes x → Becomes (roll-Stmt x)
  flagged_level x q n h =
      ap (λ (z : Flagging). stm (z.becomes n)) (flagging-out (roll-Stmt x) ∙ ap flagging_layer (out-roll-Stmt x)) ∙ flagged_layer x q n (sym (stmt-accesses-roll d x) ∙ h)

  flagged_case : (x : is.Case-F Stmt Case) → CaseParts Becomes CaseBecomes x → CaseBecomes (roll-Case x)
  flagged_case x q n h =
      ap (λ (z : CaseFlagging). case (z.becomes n)) (case_flagging-out (roll-Case x) ∙ ap (λ (y : is.Case-F Stmt Case). case_flagging_in (record { labels = y.labels; body = map flagging y.body })) (out-roll-Case x))
      ∙ case-accesses-roll d (record { labels = x.labels; body = all_become (map flagging x.body) n })
      ∙ list_becomes x.body q n (sym (case-accesses-roll d x) ∙ h)

  flagged_accesses : (l : List Stmt) (n : ℕ) → any l ≡ true → any (all_become (map flagging l) n) ≡ true
  flagged_accesses l n h = list_becomes l (by_stmts Becomes CaseBecomes flagged_level flagged_case l) n h

  -- ---- lowered statements

  constant_idle : (x : one.Expr-F Expr Place) → is_nonzero_constant_in x ≡ true → acc (roll-Expr x) ≡ false
  constant_idle (one.Const n t) h = accesses-roll d (one.Const n t)
  constant_idle (one.Null t) h = no h
  constant_idle (one.FuncAddr f) h = no h
  constant_idle (one.Load a) h = no h
  constant_idle (one.AddrOf a) h = no h
  constant_idle (one.Un o t a) h = no h
  constant_idle (one.Bin o t a b) h = no h
  constant_idle (one.Conv t a) h = no h
  constant_idle (one.Qualify t a) h = no h
  constant_idle (one.Move a b back) h = no h
  constant_idle (one.Gap a b) h = no h
  constant_idle (one.Compare o a b) h = no h
  constant_idle (one.Both a b) h = no h
  constant_idle (one.Either a b) h = no h
  constant_idle (one.Choose c a b) h = no h
  constant_idle (one.Assign a e) h = no h
  constant_idle (one.Change a o t e) h = no h
  constant_idle (one.After a down) h = no h
  constant_idle (one.Call f args) h = no h
  constant_idle (one.Intr i a) h = no h
  constant_idle (one.Seq a b) h = no h

  not_needed : (e : Expr) → is_nonzero_constant e ≡ true → acc e ≡ false
  unfolding is_nonzero_constant
  not_needed e h = ap acc (sym (roll-out-Expr e)) ∙ constant_idle (out-Expr e) h

  test_there : (x : Option Expr) (turn : List Stmt) → opt x ≡ true → any (guarded (needed_test x) turn) ≡ true
  test_there None turn h = no h
  test_there (Some e) turn h = by (is_nonzero_constant e) refl
    where
      by : (b : Bool) → is_nonzero_constant e ≡ b → any (guarded (needed_test_if b e) turn) ≡ true
      by true k = no (sym (not_needed e k) ∙ h)
      by false k = only d (is.If e turn (break_statement ∷ [])) (or_left (acc e) (any turn || any (break_statement ∷ [])) h)

  turn_there : (x : Option Expr) (turn : List Stmt) → any turn ≡ true → any (guarded (needed_test x) turn) ≡ true
  turn_there None turn h = h
  turn_there (Some e) turn h = by (is_nonzero_constant e)
    where
      by : (b : Bool) → any (guarded (needed_test_if b e) turn) ≡ true
      by true = h
      by false = only d (is.If e turn (break_statement ∷ [])) (or_right (acc e) (any turn || any (break_statement ∷ [])) (or_left (any turn) (any (break_statement ∷ [])) h))

  optional_there : (x : Option Expr) → opt x ≡ true → any (optional_statement x) ≡ true
  optional_there None h = no h
  optional_there (Some e) h = only d (is.Do e) h

  loop_there : (turn : List Stmt) → any turn ≡ true → any (endless_loop turn ∷ []) ≡ true
  loop_there turn h = or_left (stm (endless_loop turn)) false (endless turn h)

  abbrev Keeps : Stmt → Type 0
  Keeps s = (before : List Stmt) → stm s ≡ true → any (lower s before) ≡ true

  abbrev CaseKeeps : Case → Type 0
  CaseKeeps c = (before : List Stmt) → case c ≡ true → case (lower_case c before) ≡ true

  all_keep : (l : List Stmt) → Each Keeps l → (before : List Stmt) → any l ≡ true → any (lower_list l before) ≡ true
  all_keep [] q before h = no h
  all_keep (s ∷ l) q before h =
      or_either (stm s) (any l) (λ k. in_front d (lower s before) (lower_list l before) (q.0 before k)) (λ k. behind d (lower s before) (lower_list l before) (all_keep l q.1 before k)) h

  cases_keep : (l : List Case) → Each CaseKeeps l → (before : List Stmt) → cases l ≡ true → cases (lower_cases l before) ≡ true
  cases_keep [] q before h = no h
  cases_keep (c ∷ l) q before h = or_kept (case c) (cases l) (case (lower_case c before)) (cases (lower_cases l before)) (q.0 before) (cases_keep l q.1 before) h

  lowered_layer : (x : is.Stmt-F Stmt Case) → StmtParts Keeps CaseKeeps x → (before : List Stmt) → stmt_accesses_at d x ≡ true → any (lower_layer x before) ≡ true
  lowered_layer (is.Do e) q before h = only d (is.Do e) h
  lowered_layer (is.If e a b) q before h =
      only d (is.If e (lower_list a before) (lower_list b before))
      (or_kept (acc e) (any a || any b) (acc e) (any (lower_list a before) || any (lower_list b before)) (λ k. k)
      (or_kept (any a) (any b) (any (lower_list a before)) (any (lower_list b before)) (all_keep a q.0 before) (all_keep b q.1 before)) h)
  lowered_layer (is.While e a) q before h =
      loop_there (guarded (needed_test (Some e)) (lower_list a []))
      (or_either (acc e) (any a) (test_there (Some e) (lower_list a [])) (λ k. turn_there (Some e) (lower_list a []) (all_keep a q [] k)) h)
  lowered_layer (is.DoWhile a e) q before h =
      loop_there (lower_list a [] ++ guarded (needed_test (Some e)) [])
      (or_either (acc e) (any a) (λ k. behind d (lower_list a []) (guarded (needed_test (Some e)) []) (test_there (Some e) [] k)) (λ k. in_front d (lower_list a []) (guarded (needed_test (Some e)) []) (all_keep a q [] k)) h)
  lowered_layer (is.For first test again a) q before h =
      let turn : List Stmt = lower_list a (optional_statement again) ++ optional_statement again in
      or_either (opt first) (opt test || (opt again || any a)) (λ k. in_front d (optional_statement first) (endless_loop (guarded (needed_test test) turn) ∷ []) (optional_there first k))
      (λ k. behind d (optional_statement first) (endless_loop (guarded (needed_test test) turn) ∷ []) (loop_there (guarded (needed_test test) turn)
      (or_either (opt test) (opt again || any a) (test_there test turn)
      (λ l. turn_there test turn (or_either (opt again) (any a) (λ m. behind d (lower_list a (optional_statement again)) (optional_statement again) (optional_there again m))
      (λ m. in_front d (lower_list a (optional_statement again)) (optional_statement again) (all_keep a q (optional_statement again) m)) l)) k))) h
  lowered_layer (is.Switch e cs) q before h = only d (is.Switch e (lower_cases cs before)) (or_kept (acc e) (cases cs) (acc e) (cases (lower_cases cs before)) (λ k. k) (cases_keep cs q before) h)
  lowered_layer is.Break q before h = no h
  lowered_layer is.Continue q before h = no h
  lowered_layer (is.Return e) q before h = only d (is.Return e) h
  lowered_layer is.Empty q before h = no h
  lowered_layer (is.Block a) q before h = all_keep a q before h

  lowered_level : (x : is.Stmt-F Stmt Case) → StmtParts Keeps CaseKeeps x → Keeps (roll-Stmt x)
  lowered_level x q before h =
      ap any (lower-out (roll-Stmt x) before ∙ ap (λ (y : is.Stmt-F Stmt Case). lower_layer y before) (out-roll-Stmt x)) ∙ lowered_layer x q before (sym (stmt-accesses-roll d x) ∙ h)

  lowered_case : (x : is.Case-F Stmt Case) → CaseParts Keeps CaseKeeps x → CaseKeeps (roll-Case x)
  lowered_case x q before h =
      ap case (lower_case-out (roll-Case x) before ∙ ap (λ (y : is.Case-F Stmt Case). roll-Case (record { labels = y.labels; body = lower_list y.body before })) (out-roll-Case x))
      ∙ case-accesses-roll d (record { labels = x.labels; body = lower_list x.body before })
      ∙ all_keep x.body q before (sym (case-accesses-roll d x) ∙ h)

  lowered_accesses : (l : List Stmt) → any l ≡ true → any (lower_list l []) ≡ true
  lowered_accesses l h = all_keep l (by_stmts Keeps CaseKeeps lowered_level lowered_case l) [] h

  -- ---- programs

  flagged_funcs : (fs : List Func) → list_any (λ (f : Func). any f.body) fs ≡ true → list_any (λ (f : Func). any f.body) (map flagged_func fs) ≡ true
  flagged_funcs [] h = no h
  flagged_funcs (f ∷ fs) h = or_kept (any f.body) (list_any (λ (f : Func). any f.body) fs) (any (new_body f)) (list_any (λ (f : Func). any f.body) (map flagged_func fs)) (flagged_accesses f.body (length f.locals)) (flagged_funcs fs) h

  lowered_funcs : (fs : List Func) → list_any (λ (f : Func). any f.body) fs ≡ true → list_any (λ (f : Func). any f.body) (map lower_func fs) ≡ true
  lowered_funcs [] h = no h
  lowered_funcs (f ∷ fs) h =
      or_kept (any f.body) (list_any (λ (f : Func). any f.body) fs) (any (lower_list f.body [])) (list_any (λ (f : Func). any f.body) (map lower_func fs)) (lowered_accesses f.body) (lowered_funcs fs) h

pub statements_access : (p : Program) (d : ℕ) → is_accessed p d ≡ true → is_accessed (lower_program (flagged_program p)) d ≡ true
statements_access p d h = lowered_funcs d (map flagged_func p.funcs) (flagged_funcs d p.funcs h)
