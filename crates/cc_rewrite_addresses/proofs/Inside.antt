-- What is worked takes the address of no object that fails the test, where the body of its function takes none.
use Rattle.std.proofs.Common.{◌≡◌, ◌∙◌, ◌∷◌, ◌++◌, ◌||◌, ◌⊎◌, inl, inr, ℕ, Bool, true, false, List, [], map, Some, None, ap, sym, subst}
use Rattle.std.proofs.lemmas.Bool.{true≢false, cases_Bool}
use Rattle.cc_states.specs.CcControl.declared.phase.Phase.{Phase}
use Rattle.cc_states.specs.CcControl.declared.phase.Phase.TheVariants.{First, Test, Again}
use Rattle.cc_states.specs.CcControl.Control.{Level, bodies}
use Rattle.cc_program.specs.declared.expr.Expr.{Expr}
use Rattle.cc_program.specs.declared.func.Func.{Func}
use Rattle.cc_program.specs.declared.stmt.Case.{Case, out-Case, fold_out-Case}
use Rattle.cc_program.specs.declared.stmt.Stmt.{Stmt, out-Stmt, map-Stmt, fold_out-Stmt}
use Rattle.cc_program.specs.declared.stmt.Stmt.TheOpen as is
use Rattle.cc_states.specs.CcSteps.State.{Active}
use Rattle.cc_states.specs.CcSteps.Step.{worked}
use Rattle.cc_states.specs.Inside.{IsListIn, IsListInFirst, IsLeft, AreInside}
use Rattle.cc_states.specs.States.{worked_at, expression_of}
use Rattle.cc_states.proofs.Options.{either_true, left_true, right_true}
use Rattle.cc_rewrite_addresses.specs.Takes.{any_of, takes_other, optional_takes, stmt_step, stmt_takes, case_takes, TakesNone}

module _ (passes : ℕ → Bool) where
  abbrev takes : Expr → Bool
  takes e = takes_other passes e

  abbrev any_taken : List Stmt → Bool
  any_taken list = any_of (map (stmt_takes passes) list)

  abbrev any_case_taken : List Case → Bool
  any_case_taken cases = any_of (map (case_takes passes) cases)

  stmt-taken : (s : Stmt) → stmt_takes passes s ≡ stmt_step passes (map-Stmt Stmt Case Bool Bool (stmt_takes passes) (case_takes passes) (out-Stmt s))
  unfolding stmt_takes case_takes
  stmt-taken s = fold_out-Stmt Bool Bool (stmt_step passes) (λ c. any_of c.body) s

  case-taken : (c : Case) → case_takes passes c ≡ any_taken (out-Case c).body
  unfolding stmt_takes case_takes
  case-taken c = fold_out-Case Bool Bool (stmt_step passes) (λ c. any_of c.body) c

  behind_taken : (xs ys : List Stmt) → any_taken ys ≡ true → any_taken (xs ++ ys) ≡ true
  behind_taken [] ys h = h
  behind_taken (x ∷ xs) ys h = right_true (stmt_takes passes x) (any_taken (xs ++ ys)) (behind_taken xs ys h)

  either_list : (xs ys : List Stmt) → any_taken (xs ++ ys) ≡ true → (any_taken xs ≡ true) ⊎ (any_taken ys ≡ true)
  either_list [] ys h = inr h
  either_list (x ∷ xs) ys h = by_first (λ k. either_list xs ys k) (either_true (stmt_takes passes x) (any_taken (xs ++ ys)) h)
    where
      in_rest : (any_taken xs ≡ true) ⊎ (any_taken ys ≡ true) → (any_taken (x ∷ xs) ≡ true) ⊎ (any_taken ys ≡ true)
      in_rest (inl k) = inl (right_true (stmt_takes passes x) (any_taken xs) k)
      in_rest (inr k) = inr k

      by_first : (any_taken (xs ++ ys) ≡ true → (any_taken xs ≡ true) ⊎ (any_taken ys ≡ true)) → (stmt_takes passes x ≡ true) ⊎ (any_taken (xs ++ ys) ≡ true) → (any_taken (x ∷ xs) ≡ true) ⊎ (any_taken ys ≡ true)
      by_first next (inl k) = inl (left_true (stmt_takes passes x) (any_taken xs) k)
      by_first next (inr k) = in_rest (next k)

  bodies_taken : (cases : List Case) → any_taken (bodies cases) ≡ true → any_case_taken cases ≡ true
  bodies_taken [] h = h
  bodies_taken (c ∷ cases) h = by_case (λ k. bodies_taken cases k) (either_list (out-Case c).body (bodies cases) h)
    where
      by_case : (any_taken (bodies cases) ≡ true → any_case_taken cases ≡ true) → (any_taken (out-Case c).body ≡ true) ⊎ (any_taken (bodies cases) ≡ true) → any_case_taken (c ∷ cases) ≡ true
      by_case next (inl k) = left_true (case_takes passes c) (any_case_taken cases) (case-taken c ∙ k)
      by_case next (inr k) = right_true (case_takes passes c) (any_case_taken cases) (next k)

  abbrev level_taken : is.Stmt-F Stmt Case → Bool
  level_taken x = stmt_step passes (map-Stmt Stmt Case Bool Bool (stmt_takes passes) (case_takes passes) x)

  -- in a list inside a statement
  inside_taken : (x : is.Stmt-F Stmt Case) (list : List Stmt) (first : ℕ) → IsListIn x list first → any_taken list ≡ true → level_taken x ≡ true
  inside_taken (is.Do e) list first h k = absurd h
  inside_taken (is.If e these those) list first (inl h) k = right_true (takes e) _ (left_true (any_taken these) (any_taken those) (ap any_taken (sym h.0) ∙ k))
  inside_taken (is.If e these those) list first (inr h) k = right_true (takes e) _ (right_true (any_taken these) (any_taken those) (ap any_taken (sym h.0) ∙ k))
  inside_taken (is.While e body) list first h k = right_true (takes e) (any_taken body) (ap any_taken (sym h.0) ∙ k)
  inside_taken (is.DoWhile body e) list first h k = left_true (any_taken body) (takes e) (ap any_taken (sym h.0) ∙ k)
  inside_taken (is.For start test again body) list first h k =
      right_true (optional_takes passes start) (optional_takes passes test || (optional_takes passes again || any_taken body))
      (right_true (optional_takes passes test) (optional_takes passes again || any_taken body) (right_true (optional_takes passes again) (any_taken body) (ap any_taken (sym h.0) ∙ k)))
  inside_taken (is.Switch e cases) list first h k = right_true (takes e) (any_case_taken cases) (bodies_taken cases (ap any_taken (sym h.0) ∙ k))
  inside_taken is.Break list first h k = absurd h
  inside_taken is.Continue list first h k = absurd h
  inside_taken (is.Return e) list first h k = absurd h
  inside_taken is.Empty list first h k = absurd h
  inside_taken (is.Block body) list first h k = ap any_taken (sym h.0) ∙ k

  -- in the full expression that is worked
  worked_taken : (x : is.Stmt-F Stmt Case) (phase : Phase) (e : Expr) → worked x phase ≡ Some e → takes e ≡ true → level_taken x ≡ true
  worked_taken (is.Do a) phase e h k = subst (λ (y : Expr). takes y ≡ true) (let same : e ≡ a = cc in same) k
  worked_taken (is.If a these those) phase e h k = left_true (takes a) _ (subst (λ (y : Expr). takes y ≡ true) (let same : e ≡ a = cc in same) k)
  worked_taken (is.While a body) phase e h k = left_true (takes a) _ (subst (λ (y : Expr). takes y ≡ true) (let same : e ≡ a = cc in same) k)
  worked_taken (is.DoWhile body a) phase e h k = right_true (any_taken body) (takes a) (subst (λ (y : Expr). takes y ≡ true) (let same : e ≡ a = cc in same) k)
  worked_taken (is.For None test again body) First e h k = absurd (cc)
  worked_taken (is.For (Some a) test again body) First e h k = left_true (takes a) _ (subst (λ (y : Expr). takes y ≡ true) (let same : e ≡ a = cc in same) k)
  worked_taken (is.For start None again body) Test e h k = absurd (cc)
  worked_taken (is.For start (Some a) again body) Test e h k = right_true (optional_takes passes start) (takes a || (optional_takes passes again || any_taken body)) (left_true (takes a) _ (subst (λ (y : Expr). takes y ≡ true) (let same : e ≡ a = cc in same) k))
  worked_taken (is.For start test None body) Again e h k = absurd (cc)
  worked_taken (is.For start test (Some a) body) Again e h k =
      right_true (optional_takes passes start) (optional_takes passes test || (takes a || any_taken body)) (right_true (optional_takes passes test) (takes a || any_taken body) (left_true (takes a) (any_taken body) (subst (λ (y : Expr). takes y ≡ true) (let same : e ≡ a = cc in same) k)))
  worked_taken (is.Switch a cases) phase e h k = left_true (takes a) _ (subst (λ (y : Expr). takes y ≡ true) (let same : e ≡ a = cc in same) k)
  worked_taken is.Break phase e h k = absurd (cc)
  worked_taken is.Continue phase e h k = absurd (cc)
  worked_taken (is.Return None) phase e h k = absurd (cc)
  worked_taken (is.Return (Some a)) phase e h k = subst (λ (y : Expr). takes y ≡ true) (let same : e ≡ a = cc in same) k
  worked_taken is.Empty phase e h k = absurd (cc)
  worked_taken (is.Block body) phase e h k = absurd (cc)

  left_taken : (list rest : List Stmt) (first position : ℕ) → IsLeft list first rest position → any_taken rest ≡ true → any_taken list ≡ true
  left_taken list rest first position h k = ap any_taken h.whole ∙ behind_taken h.front rest k

  first_taken : (l : List Stmt) (list : List Stmt) (first : ℕ) → IsListInFirst l list first → any_taken list ≡ true → any_taken l ≡ true
  first_taken [] list first h k = absurd h
  first_taken (s ∷ l) list first h k = left_true (stmt_takes passes s) (any_taken l) (stmt-taken s ∙ inside_taken (out-Stmt s) list first h k)

  -- in the body, from the levels at which an activation stands
  body_taken : (body : List Stmt) (at : Level) (around : List Level) → AreInside body (at ∷ around) → any_taken at.rest ≡ true → any_taken body ≡ true
  body_taken body at [] h k = left_taken body at.rest 0 at.position h.0 k
  body_taken body at (b ∷ around) h k =
      body_taken body b around h.1 (first_taken b.rest h.0.0 h.0.1 h.0.2 (left_taken h.0.0 at.rest h.0.1 at.position h.0.3 k))

  list_taken : (here : Level) (l : List Stmt) (e : Expr) → worked_at here l ≡ Some e → takes e ≡ true → any_taken l ≡ true
  list_taken here [] e h k = absurd (cc)
  list_taken here (s ∷ l) e h k = left_true (stmt_takes passes s) (any_taken l) (stmt-taken s ∙ worked_taken (out-Stmt s) here.phase e h k)

-- so the full expression that is worked takes none
pub expression_takes_none : (test : ℕ → Bool) (f : Func) (a : Active) (e : Expr) → AreInside f.body (a.here ∷ a.around) → expression_of a ≡ Some e → TakesNone test f → takes_other test e ≡ false
expression_takes_none test f a e h w n = by (cases_Bool (takes_other test e))
  where
    by : (takes_other test e ≡ true) ⊎ (takes_other test e ≡ false) → takes_other test e ≡ false
    by (inl t) = absurd (true≢false (sym (body_taken test f.body a.here a.around h (list_taken test a.here a.here.rest e w t)) ∙ n))
    by (inr k) = k
