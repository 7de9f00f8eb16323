-- Keys whose addresses are taken: those that the statement of a path takes are taken in the program, and a tracked object's is none of them.
use Rattle.std.proofs.Common.{arith, ◌≡◌, ◌⊎◌, inl, inr, ◌+◌, ℕ, true, true≢false, not, ◌&&◌, ◌||◌, List, [], ◌∷◌, ◌++◌, map, Contains, Option, Some, None, refl, ap, sym, ◌∙◌, subst, slice_get}
use Rattle.std.specs.Prelude.{is_some, nat_eq}
use Rattle.std.specs.List.{flat_map}
use Rattle.std.proofs.lemmas.List.Elements.{Contains-append_left, Contains-append_right, Contains-append_cases}
use Rattle.std.proofs.lemmas.Option.{same_Some}
use Rattle.cc_state_values_sound.specs.CcControl.Control.{bodies}
use Rattle.cc_rules.specs.CcFlowSound.Statements.{inside, statement_at}
use Rattle.cc_program.specs.declared.expr.Expr.{Expr}
use Rattle.cc_program.specs.declared.func.Func.{Func}
use Rattle.cc_program.specs.declared.program.Program.{Program}
use Rattle.cc_program.specs.declared.stmt.Case.{Case, out-Case, fold-Case, fold_out-Case}
use Rattle.cc_program.specs.declared.stmt.Stmt.TheOpen as is
use Rattle.cc_program.specs.declared.stmt.Stmt.{Stmt, out-Stmt, map-Stmt, fold_out-Stmt}
use Rattle.cc_program.specs.Qualifiers.{is_const, is_volatile}
use Rattle.cc_proof_rules.proofs.Lists.{contains_at, in_map, in_flat, any_of}
use Rattle.cc_proof_rules.proofs.Numbered.{tracked_at}
use Rattle.cc_proof_rules.proofs.Positions.{is_in_contains, contains_is_in, listed_there, made_of, get_taken}
use Rattle.cc_rules.specs.CcStateFacts.declared.facts.Key.{Key}
use Rattle.cc_rules.specs.CcStateFacts.declared.facts.Key.TheVariants as key
use Rattle.cc_rules.specs.CcStateKeys.Addressed.{all_taken, taken_in, taken_in_optional, stmt_taken_step, taken_in_stmt, taken_in_func, taken_in_object, taken_keys, IsAddressed, is_object_key, is_object_among}
use Rattle.cc_rules.specs.CcStateKeys.Lists.{all_from}
use Rattle.cc_rules.specs.CcStateKeys.Tracked.{most_tracked, numbers, may_be_tracked, tracked_number}
use Rattle.cc_state_values_sound.specs.CcSteps.Step.{worked}
use Rattle.cc_state_values_sound.specs.CcControl.declared.phase.Phase.TheVariants.{First}
use Rattle.cc_state_values_sound.proofs.CcSyntax.Prefixes.{both_true}
use Rattle.cc_state_values_sound.specs.CcSyntax.Expressions.{of_one}
use Rattle.cc_state_values_sound.specs.CcSyntax.Values.{scalar_value}

-- ---- tracked objects

itself : (i : ℕ) → nat_eq i i ≡ true
itself i = grind arith

pub untaken : (p : Program) (i n : ℕ) → tracked_number p i ≡ Some n → IsAddressed p (key.Object i) → ⊥
untaken p i n h taken =
    let m = made_of (may_be_tracked (taken_keys p)) (λ q. q) 0 p.objects n i (get_taken most_tracked (numbers (may_be_tracked (taken_keys p)) p.objects) n i (tracked_at p i n h)) in
    let passes = m.passes_it in
    let o = m.thing in
    let w = both_true (is_some (scalar_value o.ctype)) (not (is_const o.ctype || is_volatile o.ctype) && not (is_object_among (taken_keys p) m.number)) passes in
    let u = both_true (not (is_const o.ctype || is_volatile o.ctype)) (not (is_object_among (taken_keys p) m.number)) w.1 in
    let among : is_object_among (taken_keys p) i ≡ true = any_of (is_object_key i) (taken_keys p) (key.Object i) taken (itself i) in
    let none : not (is_object_among (taken_keys p) i) ≡ true = ap (λ (z : ℕ). not (is_object_among (taken_keys p) z)) m.is ∙ u.1 in
    true≢false (sym none ∙ ap not among)

-- ---- statements

module _ (p : Program) (id : ℕ) (f : Func) where
  abbrev Has : List Key → Key → Type 0
  Has list k = Contains list k

  abbrev of_list : List Stmt → List Key
  of_list list = all_taken (map (taken_in_stmt p id f) list)

  case_fold : Case → List Key
  case_fold c = fold-Case (List Key) (List Key) (stmt_taken_step p id f) (λ c. all_taken c.body) c

  stmt_level : (s : Stmt) → taken_in_stmt p id f s ≡ stmt_taken_step p id f (map-Stmt Stmt Case (List Key) (List Key) (taken_in_stmt p id f) case_fold (out-Stmt s))
  unfolding taken_in_stmt case_fold
  stmt_level s = fold_out-Stmt (List Key) (List Key) (stmt_taken_step p id f) (λ c. all_taken c.body) s

  case_level : (c : Case) → case_fold c ≡ of_list (out-Case c).body
  unfolding taken_in_stmt case_fold
  case_level c = fold_out-Case (List Key) (List Key) (stmt_taken_step p id f) (λ c. all_taken c.body) c

  in_list : (list : List Stmt) (n : ℕ) (s : Stmt) (k : Key) → slice_get list n ≡ Some s → Has (taken_in_stmt p id f s) k → Has (of_list list) k
  in_list list n s k e h = in_flat (λ (l : List Key). l) (map (taken_in_stmt p id f) list) (taken_in_stmt p id f s) k (in_map (taken_in_stmt p id f) list s (contains_at list n s e)) h

  list_parts : (xs ys : List Stmt) (k : Key) → Has (of_list (xs ++ ys)) k → Has (of_list xs) k ⊎ Has (of_list ys) k
  list_parts [] ys k h = inr h
  list_parts (x ∷ xs) ys k h = elim (Contains-append_cases (taken_in_stmt p id f x) (of_list (xs ++ ys)) k h) [
    | inl a ↦ inl (Contains-append_left (taken_in_stmt p id f x) (of_list xs) k a)
    | inr b ↦ elim (list_parts xs ys k b) [ inl c ↦ inl (Contains-append_right (taken_in_stmt p id f x) (of_list xs) k c) | inr c ↦ inr c ]
  ]

  in_cases : (cases : List Case) (k : Key) → Has (of_list (bodies cases)) k → Has (all_taken (map case_fold cases)) k
  in_cases [] k h = h
  in_cases (c ∷ cases) k h = elim (list_parts (out-Case c).body (bodies cases) k h) [
    | inl a ↦ Contains-append_left (case_fold c) (all_taken (map case_fold cases)) k (subst (λ (l : List Key). Has l k) (sym (case_level c)) a)
    | inr b ↦ Contains-append_right (case_fold c) (all_taken (map case_fold cases)) k (in_cases cases k b)
  ]

  -- what the statements inside take
  in_form : (x : is.Stmt-F Stmt Case) (k : Key) → Has (of_list (inside x)) k → Has (stmt_taken_step p id f (map-Stmt Stmt Case (List Key) (List Key) (taken_in_stmt p id f) case_fold x)) k
  in_form (is.If e these those) k h =
      Contains-append_right (taken_in p id f e) (of_list these ++ of_list those) k
      (elim (list_parts these those k h) [ inl a ↦ Contains-append_left (of_list these) (of_list those) k a | inr b ↦ Contains-append_right (of_list these) (of_list those) k b ])
  in_form (is.While e body) k h = Contains-append_right (taken_in p id f e) (of_list body) k h
  in_form (is.DoWhile body e) k h = Contains-append_left (of_list body) (taken_in p id f e) k h
  in_form (is.For first test again body) k h =
      Contains-append_right (taken_in_optional p id f first) (taken_in_optional p id f test ++ (taken_in_optional p id f again ++ of_list body)) k
      (Contains-append_right (taken_in_optional p id f test) (taken_in_optional p id f again ++ of_list body) k (Contains-append_right (taken_in_optional p id f again) (of_list body) k h))
  in_form (is.Switch e cases) k h = Contains-append_right (taken_in p id f e) (all_taken (map case_fold cases)) k (in_cases cases k h)
  in_form (is.Block body) k h = h
  in_form (is.Do e) k h = no_keys k h
    where
      no_keys : {C : Type 0} (k : Key) → Contains [] k → C
      no_keys k h = absurd (let l = h.1 in omega (arith, l))
  in_form is.Break k h = absurd (let l = h.1 in omega (arith, l))
  in_form is.Continue k h = absurd (let l = h.1 in omega (arith, l))
  in_form (is.Return e) k h = absurd (let l = h.1 in omega (arith, l))
  in_form is.Empty k h = absurd (let l = h.1 in omega (arith, l))

  in_statement : (s : Stmt) (k : Key) → Has (of_list (inside (out-Stmt s))) k → Has (taken_in_stmt p id f s) k
  in_statement s k h = subst (λ (l : List Key). Has l k) (sym (stmt_level s)) (in_form (out-Stmt s) k h)

  further : (list : List Stmt) (n : ℕ) (path : List ℕ) (s : Stmt) (k : Key) → ((x : Stmt) → statement_at (inside (out-Stmt x)) path ≡ Some s → Has (of_list (inside (out-Stmt x))) k) → (o : Option Stmt) → slice_get list n ≡ o →
      of_one o (λ x. statement_at (inside (out-Stmt x)) path) ≡ Some s → Has (of_list list) k
  further list n path s k next None e h = absurd (cc)
  further list n path s k next (Some x) e h = in_list list n x k e (in_statement x k (next x h))

  at_path : (list : List Stmt) (path : List ℕ) (s : Stmt) (k : Key) → statement_at list path ≡ Some s → Has (taken_in_stmt p id f s) k → Has (of_list list) k
  at_path list [] s k e h = absurd (cc)
  at_path list (n ∷ []) s k e h = in_list list n s k e h
  at_path list (n ∷ m ∷ path) s k e h = further list n (m ∷ path) s k (λ x g. at_path (inside (out-Stmt x)) (m ∷ path) s k g h) (slice_get list n) refl e

  module _ (function : slice_get p.funcs id ≡ Some f) (path : List ℕ) (s : Stmt) (stands : statement_at f.body path ≡ Some s) where
    counts : id ≡ 0 + id
    counts = omega arith

    statement_taken : (k : Key) → Has (taken_in_stmt p id f s) k → IsAddressed p k
    statement_taken k h =
        Contains-append_left (all_from (taken_in_func p) 0 p.funcs) (flat_map (taken_in_object p) p.objects) k
        (is_in_contains (all_from (taken_in_func p) 0 p.funcs) k (listed_there (taken_in_func p) 0 p.funcs id f id k function counts (contains_is_in (taken_in_func p id f) k (at_path f.body path s k stands h))))

    -- in its full expression
    in_expression : (x : is.Stmt-F Stmt Case) (e : Expr) (k : Key) → worked x First ≡ Some e → Has (taken_in p id f e) k → Has (stmt_taken_step p id f (map-Stmt Stmt Case (List Key) (List Key) (taken_in_stmt p id f) case_fold x)) k
    in_expression (is.Do e) z k w h = subst (λ (y : Expr). Has (taken_in p id f y) k) (sym (same_Some e z w)) h
    in_expression (is.If e these those) z k w h =
        Contains-append_left (taken_in p id f e) (of_list these ++ of_list those) k (subst (λ (y : Expr). Has (taken_in p id f y) k) (sym (same_Some e z w)) h)
    in_expression (is.While e body) z k w h = Contains-append_left (taken_in p id f e) (of_list body) k (subst (λ (y : Expr). Has (taken_in p id f y) k) (sym (same_Some e z w)) h)
    in_expression (is.DoWhile body e) z k w h = Contains-append_right (of_list body) (taken_in p id f e) k (subst (λ (y : Expr). Has (taken_in p id f y) k) (sym (same_Some e z w)) h)
    in_expression (is.For first test again body) z k w h =
        Contains-append_left (taken_in_optional p id f first) (taken_in_optional p id f test ++ (taken_in_optional p id f again ++ of_list body)) k (subst (λ (y : Option Expr). Has (taken_in_optional p id f y) k) (sym w) h)
    in_expression (is.Switch e cases) z k w h = Contains-append_left (taken_in p id f e) (all_taken (map case_fold cases)) k (subst (λ (y : Expr). Has (taken_in p id f y) k) (sym (same_Some e z w)) h)
    in_expression (is.Return e) z k w h = subst (λ (y : Option Expr). Has (taken_in_optional p id f y) k) (sym w) h
    in_expression is.Break z k w h = absurd (cc)
    in_expression is.Continue z k w h = absurd (cc)
    in_expression is.Empty z k w h = absurd (cc)
    in_expression (is.Block body) z k w h = absurd (cc)

    pub expression_taken : (e : Expr) (k : Key) → worked (out-Stmt s) First ≡ Some e → Has (taken_in p id f e) k → IsAddressed p k
    expression_taken e k w h = statement_taken k (subst (λ (l : List Key). Has l k) (sym (stmt_level s)) (in_expression (out-Stmt s) e k w h))
