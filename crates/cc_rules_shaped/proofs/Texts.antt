-- The text takes the address of each key that an operand of a statement takes: a statement inside others takes no more than these.
use Rattle.std.proofs.Common.{arith, ◌≡◌, ◌⊎◌, inl, inr, ◌+◌, ℕ, zero, suc, List, [], ◌∷◌, ◌++◌, map, Contains, Option, Some, None, refl, sym, subst, slice_get}
use Rattle.std.specs.List.{flat_map}
use Rattle.std.proofs.lemmas.List.Elements.{Contains-append_left, Contains-append_right, Contains-append_cases}
use Rattle.std.proofs.lemmas.Option.{same_Some}
use Rattle.cc_rules_grow.specs.CcControl.Control.{bodies}
use Rattle.cc_rules_grow.specs.CcFlowSound.Statements.{inside, statement_at}
use Rattle.cc_program.specs.declared.func.Func.{Func}
use Rattle.cc_program.specs.declared.program.Program.{Program}
use Rattle.cc_program.specs.declared.stmt.Case.{Case, out-Case, fold-Case, fold_out-Case}
use Rattle.cc_program.specs.declared.stmt.Stmt.TheOpen as is
use Rattle.cc_program.specs.declared.stmt.Stmt.{Stmt, out-Stmt, map-Stmt, fold_out-Stmt}
use Rattle.cc_rules_grow.proofs.CcState.Lists.{no_member}
use Rattle.cc_rules_grow.specs.CcStateFacts.declared.facts.Key.{Key}
use Rattle.cc_rules_grow.specs.CcStateKeys.Addressed.{all_taken, taken_in, taken_in_optional, stmt_taken_step, taken_in_stmt, taken_in_func, taken_in_object}
use Rattle.cc_rules_grow.specs.CcStateKeys.Lists.{all_from}
use Rattle.cc_state_values_fit.specs.Fit.{AreAddressed}
use Rattle.cc_rules_grow.specs.CcSyntax.Expressions.{of_one}

into_all : {A B : Type 0} (lists : ℕ → A → List B) (n : ℕ) (xs : List A) (i : ℕ) (x : A) (b : B) → slice_get xs i ≡ Some x → Contains (lists (n + i) x) b → Contains (all_from lists n xs) b
into_all lists n [] i x b e c = absurd (cc)
into_all lists n (y ∷ xs) zero x b e c =
    let place : n + 0 ≡ n = omega arith in
    Contains-append_left (lists n y) (all_from lists (n + 1) xs) b (subst (λ z. Contains (lists n z) b) (sym (same_Some y x e)) (subst (λ (m : ℕ). Contains (lists m x) b) place c))
into_all lists n (y ∷ xs) (suc i) x b e c =
    let place : n + suc i ≡ n + 1 + i = omega arith in
    Contains-append_right (lists n y) (all_from lists (n + 1) xs) b (into_all lists (n + 1) xs i x b e (subst (λ (m : ℕ). Contains (lists m x) b) place c))

module _ (p : Program) (id : ℕ) (f : Func) where
  abbrev of_list : List Stmt → List Key
  of_list list = all_taken (map (taken_in_stmt p id f) list)

  pub case_fold : Case → List Key
  case_fold c = fold-Case (List Key) (List Key) (stmt_taken_step p id f) (λ c. all_taken c.body) c

  stmt_level : (s : Stmt) → taken_in_stmt p id f s ≡ stmt_taken_step p id f (map-Stmt Stmt Case (List Key) (List Key) (taken_in_stmt p id f) case_fold (out-Stmt s))
  unfolding taken_in_stmt case_fold
  stmt_level s = fold_out-Stmt (List Key) (List Key) (stmt_taken_step p id f) (λ c. all_taken c.body) s

  case_level : (c : Case) → case_fold c ≡ of_list (out-Case c).body
  unfolding taken_in_stmt case_fold
  case_level c = fold_out-Case (List Key) (List Key) (stmt_taken_step p id f) (λ c. all_taken c.body) c

  in_list : (list : List Stmt) (n : ℕ) (s : Stmt) (k : Key) → slice_get list n ≡ Some s → Contains (taken_in_stmt p id f s) k → Contains (of_list list) k
  in_list [] n s k e h = absurd (cc)
  in_list (x ∷ list) zero s k e h = Contains-append_left (taken_in_stmt p id f x) (of_list list) k (subst (λ (z : Stmt). Contains (taken_in_stmt p id f z) k) (sym (same_Some x s e)) h)
  in_list (x ∷ list) (suc n) s k e h = Contains-append_right (taken_in_stmt p id f x) (of_list list) k (in_list list n s k e h)

  list_parts : (xs ys : List Stmt) (k : Key) → Contains (of_list (xs ++ ys)) k → Contains (of_list xs) k ⊎ Contains (of_list ys) k
  list_parts [] ys k h = inr h
  list_parts (x ∷ xs) ys k h = elim (Contains-append_cases (taken_in_stmt p id f x) (of_list (xs ++ ys)) k h) [
    | inl a ↦ inl (Contains-append_left (taken_in_stmt p id f x) (of_list xs) k a)
    | inr b ↦ elim (list_parts xs ys k b) [ inl c ↦ inl (Contains-append_right (taken_in_stmt p id f x) (of_list xs) k c) | inr c ↦ inr c ]
  ]

  in_cases : (cases : List Case) (k : Key) → Contains (of_list (bodies cases)) k → Contains (all_taken (map case_fold cases)) k
  in_cases [] k h = h
  in_cases (c ∷ cases) k h = elim (list_parts (out-Case c).body (bodies cases) k h) [
    | inl a ↦ Contains-append_left (case_fold c) (all_taken (map case_fold cases)) k (subst (λ (l : List Key). Contains l k) (sym (case_level c)) a)
    | inr b ↦ Contains-append_right (case_fold c) (all_taken (map case_fold cases)) k (in_cases cases k b)
  ]

  -- what the statements inside take
  in_form : (x : is.Stmt-F Stmt Case) (k : Key) → Contains (of_list (inside x)) k → Contains (stmt_taken_step p id f (map-Stmt Stmt Case (List Key) (List Key) (taken_in_stmt p id f) case_fold x)) k
  in_form (is.If e these those) k h =
      Contains-append_right (taken_in p id f e) (of_list these ++ of_list those) k
      (elim (list_parts these those k h) [ inl a ↦ Contains-append_left (of_list these) (of_list those) k a | inr b ↦ Contains-append_right (of_list these) (of_list those) k b ])
  in_form (is.While e body) k h = Contains-append_right (taken_in p id f e) (of_list body) k h
  in_form (is.DoWhile body e) k h = Contains-append_left (of_list body) (taken_in p id f e) k h
  in_form (is.For first test again body) k h =
      Contains-append_right (taken_in_optional p id f first) (taken_in_optional p id f test ++ (taken_in_optional p id f again ++ of_list body)) k
      (Contains-append_right (taken_in_optional p id f test) (taken_in_optional p id f again ++ of_list body) k (Contains-append_right (taken_in_optional p id f again) (of_list body) k h))
  in_form (is.Switch e cases) k h = Contains-append_right (taken_in p id f e) (all_taken (map case_fold cases)) k (in_cases cases k h)
  in_form (is.Block body) k h = h
  in_form (is.Do e) k h = no_member k h
  in_form is.Break k h = no_member k h
  in_form is.Continue k h = no_member k h
  in_form (is.Return e) k h = no_member k h
  in_form is.Empty k h = no_member k h

  in_statement : (s : Stmt) (k : Key) → Contains (of_list (inside (out-Stmt s))) k → Contains (taken_in_stmt p id f s) k
  in_statement s k h = subst (λ (l : List Key). Contains l k) (sym (stmt_level s)) (in_form (out-Stmt s) k h)

  further : (list : List Stmt) (n : ℕ) (path : List ℕ) (s : Stmt) (k : Key) → ((x : Stmt) → statement_at (inside (out-Stmt x)) path ≡ Some s → Contains (of_list (inside (out-Stmt x))) k) → (o : Option Stmt) → slice_get list n ≡ o →
      of_one o (λ x. statement_at (inside (out-Stmt x)) path) ≡ Some s → Contains (of_list list) k
  further list n path s k next None e h = absurd (cc)
  further list n path s k next (Some x) e h = in_list list n x k e (in_statement x k (next x h))

  at_path : (list : List Stmt) (path : List ℕ) (s : Stmt) (k : Key) → statement_at list path ≡ Some s → Contains (taken_in_stmt p id f s) k → Contains (of_list list) k
  at_path list [] s k e h = absurd (cc)
  at_path list (n ∷ []) s k e h = in_list list n s k e h
  at_path list (n ∷ m ∷ path) s k e h = further list n (m ∷ path) s k (λ x g. at_path (inside (out-Stmt x)) (m ∷ path) s k g h) (slice_get list n) refl e

  -- what a statement takes of the expressions in it
  pub statement_addressed : slice_get p.funcs id ≡ Some f → (path : List ℕ) (s : Stmt) → statement_at f.body path ≡ Some s →
      AreAddressed p (stmt_taken_step p id f (map-Stmt Stmt Case (List Key) (List Key) (taken_in_stmt p id f) case_fold (out-Stmt s)))
  statement_addressed function path s stands k h =
      let place : id ≡ 0 + id = omega arith in
      let here : Contains (taken_in_func p id f) k = at_path f.body path s k stands (subst (λ (l : List Key). Contains l k) (sym (stmt_level s)) h) in
      Contains-append_left (all_from (taken_in_func p) 0 p.funcs) (flat_map (taken_in_object p) p.objects) k
      (into_all (taken_in_func p) 0 p.funcs id f k function (subst (λ (n : ℕ). Contains (taken_in_func p n f) k) place here))
