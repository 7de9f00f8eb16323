-- Statements and cases are folded, where what they have is.
use Rattle.std.proofs.Common.{◌≡◌, ℤ, Bool, true, false, ◌&&◌, List, [], ◌∷◌, ◌++◌, map, Option, refl, ap, sym, ◌∙◌}
use Rattle.std.specs.List.{list_all}
use Rattle.cc_lower_sound.specs.Folded.{is_optional_folded, folded_step, is_folded_stmt, are_folded}
use Rattle.cc_program.specs.CcNum.declared.target.Target.{Target}
use Rattle.cc_program.proofs.Each.{Each}
use Rattle.cc_program.specs.declared.expr.Expr.{Expr}
use Rattle.cc_program.specs.declared.stmt.Case.{Case, fold-Case, fold-roll-Case, out-Case, roll-Case, roll-out-Case}
use Rattle.cc_program.specs.declared.stmt.Stmt.{Stmt, Do, If, While, DoWhile, For, Switch, Break, Continue, Return, Empty, Block, roll-Stmt, out-Stmt, roll-out-Stmt, map-Stmt, fold-roll-Stmt}
use Rattle.cc_program.specs.declared.stmt.Stmt.TheOpen as is
use Rattle.cc_program.specs.declared.stmt.Stmt.TheVariants.{rolls-Do, rolls-If, rolls-While, rolls-DoWhile, rolls-For, rolls-Switch, rolls-Break, rolls-Continue, rolls-Return, rolls-Empty, rolls-Block}
use Rattle.cc_eval.specs.CcSyntax.Folding.{is_folded}
use Rattle.cc_typed_bodies.specs.CcTypedStatements.Conditions.{inside_block, body_of}
use Rattle.cc_typed_bodies.specs.CcTypedStatements.Labels.{at_last, with_label, new_case, labelled, with_statements, behind, behind_empty}
use Rattle.cc_typed_bodies.specs.CcTypedStatements.declared.cases.Cases.{Cases}
use Rattle.std.specs.Prelude.{if◌then◌else◌}
use Rattle.cc_folded_operands.proofs.Verdicts.{both}
use Rattle.cc_folded_terms.proofs.Founds.{each_append}

first_of : (a b : Bool) → a && b ≡ true → a ≡ true
first_of true b h = refl
first_of false b h = absurd (cc)

second_of : (a b : Bool) → a && b ≡ true → b ≡ true
second_of true b h = h
second_of false b h = absurd (cc)

module _ (target : Target) where
  abbrev pub folded_case : Case → Bool
  folded_case k = fold-Case Bool Bool (folded_step target) (λ c. list_all (λ b. b) c.body) k

  abbrev pub folded_at : is.Stmt-F Stmt Case → Bool
  folded_at x = folded_step target (map-Stmt Stmt Case Bool Bool (is_folded_stmt target) folded_case x)

  pub folded-stmt-roll : (x : is.Stmt-F Stmt Case) → is_folded_stmt target (roll-Stmt x) ≡ folded_at x
  unfolding is_folded_stmt
  folded-stmt-roll x = fold-roll-Stmt Bool Bool (folded_step target) (λ c. list_all (λ b. b) c.body) x

  pub folded-case-roll : (x : is.Case-F Stmt Case) → folded_case (roll-Case x) ≡ are_folded target x.body
  unfolding is_folded_stmt
  folded-case-roll x = fold-roll-Case Bool Bool (folded_step target) (λ c. list_all (λ b. b) c.body) x

  abbrev pub Folded : Expr → Type 0
  Folded e = is_folded target e ≡ true

  abbrev pub AreFolded : List Stmt → Type 0
  AreFolded ss = are_folded target ss ≡ true

  abbrev pub IsFoldedCase : Case → Type 0
  IsFoldedCase c = folded_case c ≡ true

  abbrev pub CasesFolded : List Case → Type 0
  CasesFolded cs = Each IsFoldedCase cs

  abbrev pub IsOptional : Option Expr → Type 0
  IsOptional e = is_optional_folded target e ≡ true

  -- ---- lists

  one_folded : (s : Stmt) (x : is.Stmt-F Stmt Case) → roll-Stmt x ≡ s → folded_at x ≡ true → AreFolded (s ∷ [])
  one_folded s x r h = both (is_folded_stmt target s) true (ap (is_folded_stmt target) (sym r) ∙ folded-stmt-roll x ∙ h) refl

  pub append_folded : (ss ts : List Stmt) → AreFolded ss → AreFolded ts → AreFolded (ss ++ ts)
  append_folded [] ts h k = k
  append_folded (s ∷ ss) ts h k =
      both (is_folded_stmt target s) (are_folded target (ss ++ ts)) (first_of (is_folded_stmt target s) (are_folded target ss) h) (append_folded ss ts (second_of (is_folded_stmt target s) (are_folded target ss) h) k)

  all_cases : (cs : List Case) → CasesFolded cs → list_all (λ b. b) (map folded_case cs) ≡ true
  all_cases [] h = refl
  all_cases (c ∷ cs) h = both (folded_case c) (list_all (λ b. b) (map folded_case cs)) h.0 (all_cases cs h.1)

  -- ---- statements

  pub do_folded : (e : Expr) → Folded e → AreFolded (Do e ∷ [])
  do_folded e h = one_folded (Do e) (is.Do e) (rolls-Do e) h

  pub if_folded : (e : Expr) (these those : List Stmt) → Folded e → AreFolded these → AreFolded those → AreFolded (If e these those ∷ [])
  if_folded e these those h k l =
      one_folded (If e these those) (is.If e these those) (rolls-If e these those) (both (is_folded target e) (are_folded target these && are_folded target those) h (both (are_folded target these) (are_folded target those) k l))

  pub while_folded : (e : Expr) (body : List Stmt) → Folded e → AreFolded body → AreFolded (While e body ∷ [])
  while_folded e body h k = one_folded (While e body) (is.While e body) (rolls-While e body) (both (is_folded target e) (are_folded target body) h k)

  pub do_while_folded : (body : List Stmt) (e : Expr) → Folded e → AreFolded body → AreFolded (DoWhile body e ∷ [])
  do_while_folded body e h k = one_folded (DoWhile body e) (is.DoWhile body e) (rolls-DoWhile body e) (both (is_folded target e) (are_folded target body) h k)

  pub for_folded : (first test step : Option Expr) (body : List Stmt) → IsOptional first → IsOptional test → IsOptional step → AreFolded body → AreFolded (For first test step body ∷ [])
  for_folded first test step body h k l m =
      one_folded (For first test step body) (is.For first test step body) (rolls-For first test step body)
      (both (is_optional_folded target first) (is_optional_folded target test && (is_optional_folded target step && are_folded target body)) h
      (both (is_optional_folded target test) (is_optional_folded target step && are_folded target body) k (both (is_optional_folded target step) (are_folded target body) l m)))

  pub switch_folded : (e : Expr) (cases : List Case) → Folded e → CasesFolded cases → AreFolded (Switch e cases ∷ [])
  switch_folded e cases h k = one_folded (Switch e cases) (is.Switch e cases) (rolls-Switch e cases) (both (is_folded target e) (list_all (λ b. b) (map folded_case cases)) h (all_cases cases k))

  pub break_folded : AreFolded (Break ∷ [])
  break_folded = one_folded Break is.Break rolls-Break refl

  pub continue_folded : AreFolded (Continue ∷ [])
  continue_folded = one_folded Continue is.Continue rolls-Continue refl

  pub return_folded : (e : Option Expr) → IsOptional e → AreFolded (Return e ∷ [])
  return_folded e h = one_folded (Return e) (is.Return e) (rolls-Return e) h

  pub empty_folded : AreFolded (Empty ∷ [])
  empty_folded = one_folded Empty is.Empty rolls-Empty refl

  pub block_folded : (ss : List Stmt) → AreFolded ss → AreFolded (Block ss ∷ [])
  block_folded ss h = one_folded (Block ss) (is.Block ss) (rolls-Block ss) h

  pub all_do_folded : (es : List Expr) → Each Folded es → AreFolded (map Do es)
  all_do_folded [] h = refl
  all_do_folded (e ∷ es) h = append_folded (Do e ∷ []) (map Do es) (do_folded e h.0) (all_do_folded es h.1)

  -- ---- the body of a statement

  inside_folded : (s : Stmt) (x : is.Stmt-F Stmt Case) → folded_at x ≡ true → AreFolded (s ∷ []) → AreFolded (inside_block s x)
  inside_folded s (is.Block ss) h k = h
  inside_folded s (is.Do e) h k = k
  inside_folded s (is.If e a b) h k = k
  inside_folded s (is.While e a) h k = k
  inside_folded s (is.DoWhile a e) h k = k
  inside_folded s (is.For first test step a) h k = k
  inside_folded s (is.Switch e cases) h k = k
  inside_folded s is.Break h k = k
  inside_folded s is.Continue h k = k
  inside_folded s (is.Return e) h k = k
  inside_folded s is.Empty h k = k

  opened_folded : (s : Stmt) → AreFolded (s ∷ []) → folded_at (out-Stmt s) ≡ true
  opened_folded s h = sym (folded-stmt-roll (out-Stmt s)) ∙ ap (is_folded_stmt target) (roll-out-Stmt s) ∙ first_of (is_folded_stmt target s) true h

  pub body_folded : (ss : List Stmt) → AreFolded ss → AreFolded (body_of ss)
  body_folded [] h = h
  body_folded (s ∷ []) h = inside_folded s (out-Stmt s) (opened_folded s h) h
  body_folded (s ∷ t ∷ ss) h = h

  -- ---- cases

  case_folded : (ls : List (Option ℤ)) (ss : List Stmt) → AreFolded ss → IsFoldedCase (roll-Case (record { labels = ls; body = ss }))
  case_folded ls ss h = folded-case-roll (record { labels = ls; body = ss }) ∙ h

  case_body : (c : Case) → IsFoldedCase c → AreFolded (out-Case c).body
  case_body c h = sym (folded-case-roll (out-Case c)) ∙ ap folded_case (roll-out-Case c) ∙ h

  last_folded : (change : Case → Case) (cs : List Case) → ((c : Case) → IsFoldedCase c → IsFoldedCase (change c)) → CasesFolded cs → CasesFolded (at_last change cs)
  last_folded change [] f h = tt
  last_folded change (c ∷ []) f h = (f c h.0, tt)
  last_folded change (c ∷ d ∷ cs) f h = (h.0, last_folded change (d ∷ cs) f h.1)

  with_label_folded : (l : Option ℤ) (c : Case) → IsFoldedCase c → IsFoldedCase (with_label l c)
  with_label_folded l c h = case_folded ((out-Case c).labels ++ l ∷ []) (out-Case c).body (case_body c h)

  with_statements_folded : (ss : List Stmt) → AreFolded ss → (c : Case) → IsFoldedCase c → IsFoldedCase (with_statements ss c)
  with_statements_folded ss k c h = case_folded (out-Case c).labels ((out-Case c).body ++ ss) (append_folded (out-Case c).body ss (case_body c h) k)

  cases_by : (b : Bool) (l : Option ℤ) (c : Cases) → CasesFolded c.cases → CasesFolded (if b then at_last (with_label l) c.cases else c.cases ++ new_case l ∷ [])
  cases_by true l c h = last_folded (with_label l) c.cases (with_label_folded l) h
  cases_by false l c h = each_append IsFoldedCase c.cases (new_case l ∷ []) h (case_folded (l ∷ []) [] refl, tt)

  pub labelled_folded : (l : Option ℤ) (c : Cases) → CasesFolded c.cases → CasesFolded (labelled l c).cases
  labelled_folded l c h = cases_by c.only_labels l c h

  pub behind_folded : (counts : Bool) (ss : List Stmt) (c : Cases) → AreFolded ss → CasesFolded c.cases → CasesFolded (behind counts ss c).cases
  behind_folded counts ss c h k = last_folded (with_statements ss) c.cases (with_statements_folded ss h) k

  none_or : (b : Bool) (ss : List Stmt) → AreFolded ss → AreFolded (if b then [] else ss)
  none_or true ss h = refl
  none_or false ss h = h

  pub behind_empty_folded : (ss : List Stmt) (c : Cases) → AreFolded ss → CasesFolded c.cases → CasesFolded (behind_empty ss c).cases
  behind_empty_folded ss c h k = behind_folded true (if c.only_labels then [] else ss) c (none_or c.only_labels ss h) k
