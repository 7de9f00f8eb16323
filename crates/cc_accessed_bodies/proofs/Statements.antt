-- Statements and cases access what their parts access (C99 6.8).
use Rattle.std.proofs.Common.{◌≡◌, ℕ, ℤ, Bool, true, false, ◌||◌, ◌&&◌, List, [], ◌∷◌, ◌++◌, map, Option, Some, None, refl, ap, sym, ◌∙◌, subst}
use Rattle.std.specs.Prelude.{if◌then◌else◌}
use Rattle.std.specs.List.{list_any}
use Rattle.std.proofs.lemmas.Bool.{or_left, or_right}
use Rattle.cc_accessed_operands.specs.Accessed.{accesses, optional_accesses, stmt_accesses, list_accesses}
use Rattle.cc_accessed_operands.proofs.Accesses.{or_kept, or_either, no, accesses-roll, case_accesses, cases_access, stmt_accesses_at, stmt-accesses-roll, case-accesses-roll, only, in_front, behind as behind_these}
use Rattle.cc_program.specs.declared.expr.Expr.{Expr, Seq}
use Rattle.cc_program.specs.declared.expr.Expr.TheOpen as one
use Rattle.cc_program.specs.declared.expr.Expr.TheVariants.{rolls-Seq}
use Rattle.cc_program.specs.declared.stmt.Case.{Case, out-Case, roll-Case, roll-out-Case}
use Rattle.cc_program.specs.declared.stmt.Stmt.{Stmt, Do, If, While, DoWhile, For, Switch, Return, Block, roll-Stmt, out-Stmt, roll-out-Stmt}
use Rattle.cc_program.specs.declared.stmt.Stmt.TheOpen as is
use Rattle.cc_program.specs.declared.stmt.Stmt.TheVariants.{rolls-Do, rolls-If, rolls-While, rolls-DoWhile, rolls-For, rolls-Switch, rolls-Return, rolls-Block}
use Rattle.cc_type.specs.CcTypedStatements.Conditions.{inside_block, body_of, then_one, joined_to}
use Rattle.cc_type.specs.CcTypedStatements.Labels.{at_last, with_label, new_case, labelled, with_statements, is_empty, behind, behind_empty}
use Rattle.cc_type.specs.CcTypedStatements.declared.cases.Cases.{Cases}

-- so far one may not come to such cases, or they access the device
abbrev pub item_accesses : Cases → ℕ → Bool
item_accesses c d = cases_access d c.cases || c.statement_first

module _ (d : ℕ) where
  abbrev Reads : List Stmt → Type 0
  Reads ss = list_accesses d ss ≡ true

  abbrev reads : List Stmt → Bool
  reads ss = list_accesses d ss

  -- ---- statements

  one_reads : (s : Stmt) (x : is.Stmt-F Stmt Case) → roll-Stmt x ≡ s → stmt_accesses_at d x ≡ true → Reads (s ∷ [])
  one_reads s x e h = subst (λ (z : Stmt). Reads (z ∷ [])) e (only d x h)

  pub do_reads : (e : Expr) → accesses d e ≡ true → Reads (Do e ∷ [])
  do_reads e h = one_reads (Do e) (is.Do e) (rolls-Do e) h

  pub if_reads : (e : Expr) (these those : List Stmt) → (accesses d e || (reads these || reads those)) ≡ true → Reads (If e these those ∷ [])
  if_reads e these those h = one_reads (If e these those) (is.If e these those) (rolls-If e these those) h

  pub while_reads : (e : Expr) (body : List Stmt) → (accesses d e || reads body) ≡ true → Reads (While e body ∷ [])
  while_reads e body h = one_reads (While e body) (is.While e body) (rolls-While e body) h

  pub do_while_reads : (body : List Stmt) (e : Expr) → (reads body || accesses d e) ≡ true → Reads (DoWhile body e ∷ [])
  do_while_reads body e h =
      one_reads (DoWhile body e) (is.DoWhile body e) (rolls-DoWhile body e)
      (or_either (reads body) (accesses d e) (λ k. or_right (accesses d e) (reads body) k) (λ k. or_left (accesses d e) (reads body) k) h)

  pub for_reads : (first test step : Option Expr) (body : List Stmt) → (optional_accesses d first || (optional_accesses d test || (optional_accesses d step || reads body))) ≡ true → Reads (For first test step body ∷ [])
  for_reads first test step body h = one_reads (For first test step body) (is.For first test step body) (rolls-For first test step body) h

  pub switch_reads : (e : Expr) (cases : List Case) → (accesses d e || cases_access d cases) ≡ true → Reads (Switch e cases ∷ [])
  switch_reads e cases h = one_reads (Switch e cases) (is.Switch e cases) (rolls-Switch e cases) h

  pub return_reads : (e : Option Expr) → optional_accesses d e ≡ true → Reads (Return e ∷ [])
  return_reads e h = one_reads (Return e) (is.Return e) (rolls-Return e) h

  pub block_reads : (ss : List Stmt) → Reads ss → Reads (Block ss ∷ [])
  block_reads ss h = one_reads (Block ss) (is.Block ss) (rolls-Block ss) h

  pub all_do_read : (es : List Expr) → list_any (accesses d) es ≡ true → Reads (map Do es)
  all_do_read [] h = no h
  all_do_read (e ∷ es) h =
      or_either (accesses d e) (list_any (accesses d) es) (λ k. in_front d (Do e ∷ []) (map Do es) (do_reads e k)) (λ k. behind_these d (Do e ∷ []) (map Do es) (all_do_read es k)) h

  -- ---- assignments in front of a `for`

  seq_accesses : (a b : Expr) → (accesses d a || accesses d b) ≡ true → accesses d (Seq a b) ≡ true
  seq_accesses a b h = ap (accesses d) (sym (rolls-Seq a b)) ∙ accesses-roll d (one.Seq a b) ∙ h

  first_kept : (before : Option Expr) (e : Expr) → (optional_accesses d before || accesses d e) ≡ true → optional_accesses d (then_one before e) ≡ true
  first_kept None e h = h
  first_kept (Some a) e h = seq_accesses a e h

  pub joined_access : (before : Option Expr) (es : List Expr) → (optional_accesses d before || list_any (accesses d) es) ≡ true → optional_accesses d (joined_to before es) ≡ true
  joined_access before [] h = or_either (optional_accesses d before) false (λ k. k) (λ k. no k) h
  joined_access before (e ∷ es) h =
      let now = optional_accesses d (then_one before e) in
      let old = optional_accesses d before in
      joined_access (then_one before e) es
      (or_either old (accesses d e || list_any (accesses d) es) (λ k. or_left now (list_any (accesses d) es) (first_kept before e (or_left old (accesses d e) k)))
      (λ k. or_kept (accesses d e) (list_any (accesses d) es) now (list_any (accesses d) es) (λ l. first_kept before e (or_right old (accesses d e) l)) (λ l. l) k) h)

  -- ---- the body of a statement

  inside_reads : (s : Stmt) (x : is.Stmt-F Stmt Case) → stmt_accesses_at d x ≡ true → Reads (s ∷ []) → Reads (inside_block s x)
  inside_reads s (is.Block ss) h k = h
  inside_reads s (is.Do e) h k = k
  inside_reads s (is.If e a b) h k = k
  inside_reads s (is.While e a) h k = k
  inside_reads s (is.DoWhile a e) h k = k
  inside_reads s (is.For first test step a) h k = k
  inside_reads s (is.Switch e cases) h k = k
  inside_reads s is.Break h k = k
  inside_reads s is.Continue h k = k
  inside_reads s (is.Return e) h k = k
  inside_reads s is.Empty h k = k

  opened_reads : (s : Stmt) → Reads (s ∷ []) → stmt_accesses_at d (out-Stmt s) ≡ true
  opened_reads s h = sym (stmt-accesses-roll d (out-Stmt s)) ∙ ap (stmt_accesses d) (roll-out-Stmt s) ∙ or_either (stmt_accesses d s) false (λ k. k) (λ k. no k) h

  pub body_reads : (ss : List Stmt) → Reads ss → Reads (body_of ss)
  body_reads [] h = h
  body_reads (s ∷ []) h = inside_reads s (out-Stmt s) (opened_reads s h) h
  body_reads (s ∷ t ∷ ss) h = h

  -- ---- cases

  case_body : (c : Case) → case_accesses d c ≡ reads (out-Case c).body
  case_body c = ap (case_accesses d) (sym (roll-out-Case c)) ∙ case-accesses-roll d (out-Case c)

  case_reads : (ls : List (Option ℤ)) (ss : List Stmt) → Reads ss → case_accesses d (roll-Case (record { labels = ls; body = ss })) ≡ true
  case_reads ls ss h = case-accesses-roll d (record { labels = ls; body = ss }) ∙ h

  label_kept : (l : Option ℤ) (c : Case) → case_accesses d c ≡ true → case_accesses d (with_label l c) ≡ true
  label_kept l c h = case_reads ((out-Case c).labels ++ l ∷ []) (out-Case c).body (sym (case_body c) ∙ h)

  statements_kept : (ss : List Stmt) (c : Case) → case_accesses d c ≡ true → case_accesses d (with_statements ss c) ≡ true
  statements_kept ss c h = case_reads (out-Case c).labels ((out-Case c).body ++ ss) (in_front d (out-Case c).body ss (sym (case_body c) ∙ h))

  statements_read : (ss : List Stmt) → Reads ss → (c : Case) → case_accesses d (with_statements ss c) ≡ true
  statements_read ss h c = case_reads (out-Case c).labels ((out-Case c).body ++ ss) (behind_these d (out-Case c).body ss h)

  last_kept : (change : Case → Case) → ((c : Case) → case_accesses d c ≡ true → case_accesses d (change c) ≡ true) → (cs : List Case) → cases_access d cs ≡ true → cases_access d (at_last change cs) ≡ true
  last_kept change f [] h = h
  last_kept change f (c ∷ []) h = or_kept (case_accesses d c) false (case_accesses d (change c)) false (f c) (λ k. k) h
  last_kept change f (c ∷ e ∷ cs) h = or_kept (case_accesses d c) (cases_access d (e ∷ cs)) (case_accesses d c) (cases_access d (at_last change (e ∷ cs))) (λ k. k) (last_kept change f (e ∷ cs)) h

  last_new : (change : Case → Case) → ((c : Case) → case_accesses d (change c) ≡ true) → (c : Case) (cs : List Case) → cases_access d (at_last change (c ∷ cs)) ≡ true
  last_new change f c [] = or_left (case_accesses d (change c)) false (f c)
  last_new change f c (e ∷ cs) = or_right (case_accesses d c) (cases_access d (at_last change (e ∷ cs))) (last_new change f e cs)

  cases_front : (cs es : List Case) → cases_access d cs ≡ true → cases_access d (cs ++ es) ≡ true
  cases_front [] es h = no h
  cases_front (c ∷ cs) es h = or_kept (case_accesses d c) (cases_access d cs) (case_accesses d c) (cases_access d (cs ++ es)) (λ k. k) (cases_front cs es) h

  -- ---- the cases of a `switch`, so far

  with_label_kept : (b : Bool) (l : Option ℤ) (cs : List Case) → cases_access d cs ≡ true → cases_access d (if b then at_last (with_label l) cs else cs ++ new_case l ∷ []) ≡ true
  with_label_kept true l cs h = last_kept (with_label l) (label_kept l) cs h
  with_label_kept false l cs h = cases_front cs (new_case l ∷ []) h

  pub labelled_kept : (l : Option ℤ) (c : Cases) → item_accesses c d ≡ true → item_accesses (labelled l c) d ≡ true
  labelled_kept l c h = or_kept (cases_access d c.cases) c.statement_first (cases_access d (labelled l c).cases) c.statement_first (with_label_kept c.only_labels l c.cases) (λ k. k) h

  pub behind_kept : (counts : Bool) (ss : List Stmt) (c : Cases) → item_accesses c d ≡ true → item_accesses (behind counts ss c) d ≡ true
  behind_kept counts ss c h =
      or_kept (cases_access d c.cases) c.statement_first (cases_access d (behind counts ss c).cases) (behind counts ss c).statement_first (last_kept (with_statements ss) (statements_kept ss) c.cases)
      (λ k. or_left c.statement_first (is_empty c.cases && counts) k) h

  new_by : (ss : List Stmt) → Reads ss → (cs : List Case) (first : Bool) → (cases_access d (at_last (with_statements ss) cs) || (first || (is_empty cs && true))) ≡ true
  new_by ss h [] first = or_right first true refl
  new_by ss h (c ∷ cs) first = or_left (cases_access d (at_last (with_statements ss) (c ∷ cs))) (first || false) (last_new (with_statements ss) (statements_read ss h) c cs)

  -- what may not come first
  pub behind_new : (counts : Bool) (ss : List Stmt) (c : Cases) → (counts && reads ss) ≡ true → item_accesses (behind counts ss c) d ≡ true
  behind_new true ss c h = new_by ss h c.cases c.statement_first
  behind_new false ss c h = no h

  pub behind_empty_kept : (ss : List Stmt) (c : Cases) → item_accesses c d ≡ true → item_accesses (behind_empty ss c) d ≡ true
  behind_empty_kept ss c h = behind_kept true (if c.only_labels then [] else ss) c h
