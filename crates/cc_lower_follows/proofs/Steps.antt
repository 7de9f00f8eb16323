-- At related positions the lowered program and its source make the same transition, and converge again.
use Rattle.std.proofs.Common.{◌≡◌, ℕ, ℤ, ◌+◌, Bool, true, false, not, ◌&&◌, List, [], ◌∷◌, ◌++◌, length, Option, Some, None, option_map, slice_get, refl, ap, sym, ◌∙◌, subst, if◌then◌else◌}
use Rattle.std.specs.List.{list_any}
use Rattle.std.specs.Option.{option_or}
use Rattle.std.proofs.lemmas.List.{append-nil}
use Rattle.cc_program.specs.declared.expr.Expr.{Expr}
use Rattle.cc_program.specs.declared.func.Func.{Func}
use Rattle.cc_program.specs.declared.program.Program.{Program}
use Rattle.cc_program.specs.declared.stmt.Case.{Case, out-Case, out-roll-Case}
use Rattle.cc_program.specs.declared.stmt.Stmt.{Stmt, out-Stmt, roll-Stmt, out-roll-Stmt}
use Rattle.cc_program.specs.declared.stmt.Stmt.TheOpen as is
use Rattle.cc_program.specs.declared.value.Value.{Value}
use Rattle.cc_steps.specs.CcControl.declared.phase.Phase.{Phase}
use Rattle.cc_steps.specs.CcControl.declared.phase.Phase.TheVariants.{First, Test, Again}
use Rattle.cc_steps.specs.CcControl.Control.{is_loop, is_left_by_break, behind_body, coming, bodies, from_label, is_label, is_default}
use Rattle.cc_steps.specs.CcEval.declared.mark.Mark.{Mark}
use Rattle.cc_steps.specs.CcEval.Progress.{Progress, Known, Waits, Traps, no_value}
use Rattle.cc_steps.specs.Runs.{begins_at, is_empty}
use Rattle.cc_steps.specs.Step.{worked, passed, is_return, is_known, is_past, is_passed, number_in, progress_in}
use Rattle.cc_steps.specs.CcValues.Values.{is_true}
use Rattle.cc_meaning_simulations.specs.Continuations.{Continuation, Remainder, break_out, continue_on, enclosing, found_case, in_arm, in_cases, in_loop, next_continuation, remainder, resume}
use Rattle.cc_meaning_simulations.specs.Locksteps.{AreControlsAlike, Matches, QJumps}
use Rattle.cc_meaning_simulations.specs.Transitions.{ControlState, Jumps, Returns, Transition, at_continuation, control_at, is_at_boundary, jump_to, mark_added, marked_control, progress_there, settled_control_in, transition, transition_in}
use Rattle.cc_lower_statements.specs.Statements.{break_statement, constant_one, endless_loop, expression_statement, guarded, is_nonzero_constant, lower_case, lower_cases, lower_list, lower_program, needed_test, needed_test_if, optional_statement}
use Rattle.cc_lower_statements.proofs.Layers.{lower_case-out, lower_layer, lower_list-append}
use Rattle.cc_lower_follows.specs.Fit.{are_fit, is_case_fit, is_fit}
use Rattle.cc_lower_follows.proofs.Constants.{nonzero_holds}
use Rattle.cc_lower_follows.proofs.Converging.{ContinueTarget, ControlsConverge, InLoop, NoLoop, back_to_loop, break_loop, break_past, break_test, continue_target, into_body, jump-is, jump_begin-is, jump_begin_endless, jump_endless, jumps_by, jumps_in, loop_converges, marked-is, nothing-known, progress_alike, resume_test, resumes_alike, transition-is, transition_known}
use Rattle.cc_lower_follows.proofs.Relation.{AreWellFormed, AtFirst, AtFunctionEnd, AtLoop, AtStatement, AtStep, AtTest, IsAt, Match, ReturnsToLoop, after-is, after_in, after_of, are_cases_fit, control_of, guarded_body, in_tested_do, in_tested_do-is, inside_test, is_case_fit-out, is_continue, is_fit-out, is_kept, is_layer_fit, loop_body, loop_remainder, lowered_around, lowered_around-is, lowered_around_in, lowered_list, step-is, step_in, step_of, test_of, test_statement, tested_do_in}

both_left : (a b : Bool) → (a && b) ≡ true → a ≡ true
both_left true b h = refl
both_left false b h = absurd (cc)

both_right : (a b : Bool) → (a && b) ≡ true → b ≡ true
both_right true b h = h
both_right false b h = absurd (cc)

empty_is : (ms : List Mark) → is_empty ms ≡ true → ms ≡ []
empty_is [] h = refl
empty_is (m ∷ ms) h = absurd (cc)

not-known : {A : Type 0} → (r : Progress (Option Value)) (v : Value) (ms : List Mark) → is_known r ≡ false → r ≡ Known (Some v) ms → A
not-known r v ms h e = let k : false ≡ true = sym h ∙ ap is_known e in absurd (cc)

needed_by : (b : Bool) (d e : Expr) → needed_test_if b d ≡ Some e → d ≡ e
needed_by true d e h = absurd (cc)
needed_by false d e h = cc

-- a test that is needed is there
needed_some : (t : Option Expr) (e : Expr) → needed_test t ≡ Some e → t ≡ Some e
needed_some None e h = absurd (cc)
needed_some (Some d) e h = ap Some (needed_by (is_nonzero_constant d) d e h)

-- ---- cases

abbrev lists_of : Option (ℕ × List Stmt) → Option (List Stmt)
lists_of x = option_map (λ x. x.1) x

module _ (k : List Stmt) where
  bodies_lower : (cases : List Case) → bodies (lower_cases cases k) ≡ lower_list (bodies cases) k
  bodies_lower [] = refl
  bodies_lower (c ∷ cases) =
      ap (λ (b : List Stmt). b ++ bodies (lower_cases cases k)) (ap (λ (c : Case). (out-Case c).body) (lower_case-out c k) ∙ ap (λ (c : is.Case-F Stmt Case). c.body) (out-roll-Case (record { labels = (out-Case c).labels; body = lower_list (out-Case c).body k })))
      ∙ ap (λ (b : List Stmt). lower_list (out-Case c).body k ++ b) (bodies_lower cases) ∙ sym (lower_list-append (out-Case c).body (bodies cases) k)

  labels_lower : (c : Case) → (out-Case (lower_case c k)).labels ≡ (out-Case c).labels
  labels_lower c =
      ap (λ (c : Case). (out-Case c).labels) (lower_case-out c k) ∙ ap (λ (c : is.Case-F Stmt Case). c.labels) (out-roll-Case (record { labels = (out-Case c).labels; body = lower_list (out-Case c).body k }))

  module _ (has : List (Option ℤ) → Bool) where
    from_lower : (cases : List Case) (i j : ℕ) → lists_of (from_label has i (lower_cases cases k)) ≡ option_map (λ l. lower_list l k) (lists_of (from_label has j cases))
    from_lower [] i j = refl
    from_lower (c ∷ cases) i j =
        ap (λ (b : Bool). lists_of (if b then Some (i, bodies (lower_cases (c ∷ cases) k)) else from_label has (i + length (out-Case (lower_case c k)).body) (lower_cases cases k))) (ap has (labels_lower c))
        ∙ either (from_lower cases (i + length (out-Case (lower_case c k)).body) (j + length (out-Case c).body)) (has (out-Case c).labels)
      where
        either : lists_of (from_label has (i + length (out-Case (lower_case c k)).body) (lower_cases cases k)) ≡ option_map (λ l. lower_list l k) (lists_of (from_label has (j + length (out-Case c).body) cases)) → (b : Bool) → lists_of (if b then Some (i, bodies (lower_cases (c ∷ cases) k)) else from_label has (i + length (out-Case (lower_case c k)).body) (lower_cases cases k))
            ≡ option_map (λ l. lower_list l k) (lists_of (if b then Some (j, bodies (c ∷ cases)) else from_label has (j + length (out-Case c).body) cases))
        either z true = ap Some (bodies_lower (c ∷ cases))
        either z false = z

  or_lists : (x y x' y' : Option (ℕ × List Stmt)) → lists_of x ≡ option_map (λ l. lower_list l k) (lists_of x') → lists_of y ≡ option_map (λ l. lower_list l k) (lists_of y') →
      lists_of (option_or x y) ≡ option_map (λ l. lower_list l k) (lists_of (option_or x' y'))
  or_lists None y None y' h i = i
  or_lists (Some x) y (Some x') y' h i = h
  or_lists None y (Some x') y' h i = absurd (cc)
  or_lists (Some x) y None y' h i = absurd (cc)

  found_lower : (v : ℤ) (cases : List Case) → lists_of (found_case v (lower_cases cases k)) ≡ option_map (λ l. lower_list l k) (lists_of (found_case v cases))
  found_lower v cases =
      or_lists (from_label (list_any (is_label v)) 0 (lower_cases cases k)) (from_label (list_any is_default) 0 (lower_cases cases k)) (from_label (list_any (is_label v)) 0 cases) (from_label (list_any is_default) 0 cases)
      (from_lower (list_any (is_label v)) cases 0 0) (from_lower (list_any is_default) cases 0 0)

-- what is found in cases that are fit, is fit
module _ (b : Bool) where
  are_fit-append : (xs ys : List Stmt) → are_fit b xs ≡ true → are_fit b ys ≡ true → are_fit b (xs ++ ys) ≡ true
  are_fit-append [] ys h i = i
  are_fit-append (x ∷ xs) ys h i = ap (λ c. c && are_fit b (xs ++ ys)) (both_left (is_fit x b) (are_fit b xs) h) ∙ are_fit-append xs ys (both_right (is_fit x b) (are_fit b xs) h) i

  bodies_fit : (cases : List Case) → are_cases_fit b cases ≡ true → are_fit b (bodies cases) ≡ true
  bodies_fit [] h = refl
  bodies_fit (c ∷ cases) h =
      are_fit-append (out-Case c).body (bodies cases) (sym (is_case_fit-out c b) ∙ both_left (is_case_fit c b) (are_cases_fit b cases) h) (bodies_fit cases (both_right (is_case_fit c b) (are_cases_fit b cases) h))

  abbrev IsFoundFit : Option (ℕ × List Stmt) → Type 0
  IsFoundFit None = Unit {0}
  IsFoundFit (Some x) = are_fit b x.1 ≡ true

  from_label_fit : (has : List (Option ℤ) → Bool) (cases : List Case) (i : ℕ) → are_cases_fit b cases ≡ true → IsFoundFit (from_label has i cases)
  from_label_fit has [] i h = tt
  from_label_fit has (c ∷ cases) i h = either (from_label_fit has cases (i + length (out-Case c).body) (both_right (is_case_fit c b) (are_cases_fit b cases) h)) (has (out-Case c).labels)
    where
      either : IsFoundFit (from_label has (i + length (out-Case c).body) cases) → (z : Bool) → IsFoundFit (if z then Some (i, bodies (c ∷ cases)) else from_label has (i + length (out-Case c).body) cases)
      either j true = bodies_fit (c ∷ cases) h
      either j false = j

  either_fit : (x y : Option (ℕ × List Stmt)) → IsFoundFit x → IsFoundFit y → IsFoundFit (option_or x y)
  either_fit None y h i = i
  either_fit (Some x) y h i = h

  found_fit : (v : ℤ) (cases : List Case) → are_cases_fit b cases ≡ true → IsFoundFit (found_case v cases)
  found_fit v cases h = either_fit (from_label (list_any (is_label v)) 0 cases) (from_label (list_any is_default) 0 cases) (from_label_fit (list_any (is_label v)) cases 0 h) (from_label_fit (list_any is_default) cases 0 h)

module _ (P : Program) where
  abbrev Alike : ControlState → ControlState → Transition → Transition → Type 0
  Alike q p d e = AreControlsAlike (lower_program P) P (Match P) q p d e

  abbrev known : Program → is.Stmt-F Stmt Case → ControlState → Value → Transition
  known p x a v = if is_return x then Returns v else Jumps (jump_to p a (next_continuation x a.here a.around v))

  alike_by : (y x : is.Stmt-F Stmt Case) (q p : ControlState) (r : Progress (Option Value)) → ((m : Mark) → ControlsConverge P (marked_control (lower_program P) q m) (marked_control P p m)) →
      ((v : Value) (ms : List Mark) → r ≡ Known (Some v) ms → Alike q p (known (lower_program P) y q v) (known P x p v)) → Alike q p (transition_in (lower_program P) y q r) (transition_in P x p r)
  alike_by y x q p (Waits action) j k = (refl, j)
  alike_by y x q p (Traps ms) j k = tt
  alike_by y x q p (Known None ms) j k = tt
  alike_by y x q p (Known (Some v) ms) j k = k v ms refl

  -- both evaluate the same expression
  module _ (n f : ℕ) (ms : List Mark) (t s : Stmt) (r rest : List Stmt) (later now : Phase) (out around : List Remainder) (y x : is.Stmt-F Stmt Case) (e : out-Stmt t ≡ y) (h : out-Stmt s ≡ x) where
    abbrev q_here : ControlState
    q_here = control_of n f (remainder (t ∷ r) later) out ms

    abbrev p_here : ControlState
    p_here = control_of n f (remainder (s ∷ rest) now) around ms

    same_expression : (d : Option Expr) → worked y later ≡ d → worked x now ≡ d → ((m : Mark) → ControlsConverge P (settled_control_in (lower_program P) y (mark_added q_here m)) (settled_control_in P x (mark_added p_here m))) →
        ((v : Value) (ns : List Mark) → progress_there P p_here d ≡ Known (Some v) ns → Alike q_here p_here (known (lower_program P) y q_here v) (known P x p_here v)) → Alike q_here p_here (transition (lower_program P) q_here) (transition P p_here)
    same_expression d i j k l =
        let dq : transition (lower_program P) q_here ≡ transition_in (lower_program P) y q_here (progress_there P p_here d) = transition-is (lower_program P) n f t r later out ms y e ∙ ap (transition_in (lower_program P) y q_here) (ap (progress_there (lower_program P) q_here) i ∙ progress_alike P q_here d) in
        let dp : transition P p_here ≡ transition_in P x p_here (progress_there P p_here d) = transition-is P n f s rest now around ms x h ∙ ap (λ (z : Option Expr). transition_in P x p_here (progress_there P p_here z)) j in
        subst (λ (z : Transition). Alike q_here p_here z (transition P p_here)) (sym dq)
        (subst (λ (z : Transition). Alike q_here p_here (transition_in (lower_program P) y q_here (progress_there P p_here d)) z) (sym dp)
        (alike_by y x q_here p_here (progress_there P p_here d)
        (λ m. subst (λ (z : ControlState). ControlsConverge P z (marked_control P p_here m)) (sym (marked-is (lower_program P) n f t r later out ms y e m)) (subst (λ (z : ControlState). ControlsConverge P (settled_control_in (lower_program P) y (mark_added q_here m)) z) (sym (marked-is P n f s rest now around ms x h m)) (k m)))
        l))

  -- ---- at the same statement

  module _ (n f : ℕ) (s : Stmt) (rest : List Stmt) (around : List Remainder) (ms : List Mark) where
    abbrev k : List Stmt
    k = step_of around

    abbrev r : List Stmt
    r = lowered_list rest around

    abbrev out : List Remainder
    out = lowered_around around

    abbrev p_at : List Mark → ControlState
    p_at ms = control_of n f (remainder (s ∷ rest) First) around ms

    abbrev q_at : is.Stmt-F Stmt Case → List Mark → ControlState
    q_at x ms = control_of n f (remainder (lower_layer x k ++ r) First) out ms

    -- with one more mark
    mark_added_alike : (x : is.Stmt-F Stmt Case) → IsAt P f s rest around x → is_kept x ≡ true → (is_continue x ≡ true → k ≡ []) → (m : Mark) → ControlsConverge P (mark_added (q_at x ms) m) (mark_added (p_at ms) m)
    mark_added_alike x pl i c m = Matches _ _ (AtStatement n f s rest around x (ms ++ m ∷ []) pl i c refl refl)

    module _ (x : is.Stmt-F Stmt Case) (pl : IsAt P f s rest around x) where
      rest_fit : are_fit (in_tested_do around) rest ≡ true
      rest_fit = both_right (is_fit s (in_tested_do around)) (are_fit (in_tested_do around) rest) pl.is_fit

      first_fit : is_layer_fit x (in_tested_do around) ≡ true
      first_fit = sym (is_fit-out s (in_tested_do around) ∙ ap (λ (y : is.Stmt-F Stmt Case). is_layer_fit y (in_tested_do around)) pl.first) ∙ both_left (is_fit s (in_tested_do around)) (are_fit (in_tested_do around) rest) pl.is_fit

      abbrev inner : List Remainder
      inner = enclosing (remainder (s ∷ rest) First) ∷ around

      inner_well_formed : AreWellFormed inner
      inner_well_formed = (refl, pl.is_fit, pl.well_formed)

      inner_fit : (l : List Stmt) → are_fit (tested_do_in x (in_tested_do around)) l ≡ true → are_fit (in_tested_do inner) l ≡ true
      inner_fit l h = ap (λ b. are_fit b l) (in_tested_do-is s rest (coming (s ∷ rest)) around x pl.first) ∙ h

      -- behind it
      resume_behind : ControlsConverge P (jump_to (lower_program P) (control_at n f) (resume r out)) (jump_to P (control_at n f) (resume rest around))
      resume_behind = (resumes_alike P n f pl.body pl.function around rest pl.well_formed rest_fit).0

      -- into a list inside it
      resume_inside : (l : List Stmt) → are_fit (tested_do_in x (in_tested_do around)) l ≡ true →
          ControlsConverge P (jump_to (lower_program P) (control_at n f) (resume (lower_list l (step_in x k) ++ after_in x r) (lowered_around_in x k r out))) (jump_to P (control_at n f) (resume l inner))
      resume_inside l h =
          let j = (resumes_alike P n f pl.body pl.function inner l inner_well_formed (inner_fit l h)).0 in
          let ph : Phase = coming (s ∷ rest) in
          subst (λ (o : List Remainder). ControlsConverge P (jump_to (lower_program P) (control_at n f) (resume (lower_list l (step_in x k) ++ after_in x r) o)) (jump_to P (control_at n f) (resume l inner))) (lowered_around-is s rest ph around x pl.first)
          (subst (λ (z : List Stmt). ControlsConverge P (jump_to (lower_program P) (control_at n f) (resume (lower_list l (step_in x k) ++ z) (lowered_around inner))) (jump_to P (control_at n f) (resume l inner))) (after-is s rest ph around x pl.first)
          (subst (λ (z : List Stmt). ControlsConverge P (jump_to (lower_program P) (control_at n f) (resume (lower_list l z ++ after_of inner) (lowered_around inner))) (jump_to P (control_at n f) (resume l inner))) (step-is s rest ph around x pl.first) j))

    -- a statement that both have, around what is inside it
    kept_enclosing : (y : is.Stmt-F Stmt Case) → behind_body y ≡ First → enclosing (remainder (roll-Stmt y ∷ r) First) ≡ remainder (roll-Stmt y ∷ r) First
    kept_enclosing y h = ap (λ (z : is.Stmt-F Stmt Case). remainder (roll-Stmt y ∷ r) (behind_body z)) (out-roll-Stmt y) ∙ ap (remainder (roll-Stmt y ∷ r)) h

    do_alike : (d : Expr) → IsAt P f s rest around (is.Do d) → Alike (q_at (is.Do d) ms) (p_at ms) (transition (lower_program P) (q_at (is.Do d) ms)) (transition P (p_at ms))
    do_alike d pl =
        same_expression n f ms (expression_statement d) s r rest First First out around (is.Do d) (is.Do d) (out-roll-Stmt (is.Do d)) pl.first (Some d) refl refl
        (λ m. subst (λ (z : Progress (Option Value)). ControlsConverge P (if is_known z then jump_to (lower_program P) (mark_added (q_at (is.Do d) ms) m) (resume r out) else mark_added (q_at (is.Do d) ms) m)
        (if is_known (progress_there P (mark_added (p_at ms) m) (Some d)) then jump_to P (mark_added (p_at ms) m) (resume rest around) else mark_added (p_at ms) m))
        (sym (progress_alike P (mark_added (q_at (is.Do d) ms) m) (Some d))) (either m (is_known (progress_there P (mark_added (p_at ms) m) (Some d)))))
        (λ v ns e. resume_behind (is.Do d) pl)
      where
        either : (m : Mark) (b : Bool) → ControlsConverge P (if b then jump_to (lower_program P) (mark_added (q_at (is.Do d) ms) m) (resume r out) else mark_added (q_at (is.Do d) ms) m) (if b then jump_to P (mark_added (p_at ms) m) (resume rest around) else mark_added (p_at ms) m)
        either m true = resume_behind (is.Do d) pl
        either m false = mark_added_alike (is.Do d) pl refl (λ c. absurd (cc)) m

    if_alike : (d : Expr) (these those : List Stmt) → IsAt P f s rest around (is.If d these those) →
        Alike (q_at (is.If d these those) ms) (p_at ms) (transition (lower_program P) (q_at (is.If d these those) ms)) (transition P (p_at ms))
    if_alike d these those pl =
        let x : is.Stmt-F Stmt Case = is.If d these those in
        let y : is.Stmt-F Stmt Case = is.If d (lower_list these k) (lower_list those k) in
        same_expression n f ms (roll-Stmt y) s r rest First First out around y x (out-roll-Stmt y) pl.first (Some d) refl refl (mark_added_alike x pl refl (λ c. absurd (cc)))
        (λ v ns e. subst (λ (b : Remainder). ControlsConverge P (jump_to (lower_program P) (control_at n f) (in_arm (is_true v) (lower_list these k) (lower_list those k) (b ∷ out))) (jump_to P (control_at n f) (in_arm (is_true v) these those (inner x pl))))
        (sym (kept_enclosing y refl)) (either (is_true v)))
      where
        first : (are_fit (in_tested_do around) these && are_fit (in_tested_do around) those) ≡ true
        first = first_fit (is.If d these those) pl

        either : (b : Bool) → ControlsConverge P (jump_to (lower_program P) (control_at n f) (in_arm b (lower_list these k) (lower_list those k) (remainder (roll-Stmt (is.If d (lower_list these k) (lower_list those k)) ∷ r) First ∷ out)))
            (jump_to P (control_at n f) (in_arm b these those (inner (is.If d these those) pl)))
        either true =
            subst (λ (z : List Stmt). ControlsConverge P (jump_to (lower_program P) (control_at n f) (resume z (remainder (roll-Stmt (is.If d (lower_list these k) (lower_list those k)) ∷ r) First ∷ out))) (jump_to P (control_at n f) (resume these (inner (is.If d these those) pl)))) (append-nil (lower_list these k))
            (resume_inside (is.If d these those) pl these (both_left (are_fit (in_tested_do around) these) (are_fit (in_tested_do around) those) first))
        either false =
            subst (λ (z : List Stmt). ControlsConverge P (jump_to (lower_program P) (control_at n f) (resume z (remainder (roll-Stmt (is.If d (lower_list these k) (lower_list those k)) ∷ r) First ∷ out))) (jump_to P (control_at n f) (resume those (inner (is.If d these those) pl)))) (append-nil (lower_list those k))
            (resume_inside (is.If d these those) pl those (both_right (are_fit (in_tested_do around) these) (are_fit (in_tested_do around) those) first))

    switch_alike : (d : Expr) (cases : List Case) → IsAt P f s rest around (is.Switch d cases) →
        Alike (q_at (is.Switch d cases) ms) (p_at ms) (transition (lower_program P) (q_at (is.Switch d cases) ms)) (transition P (p_at ms))
    switch_alike d cases pl =
        let x : is.Stmt-F Stmt Case = is.Switch d cases in
        let y : is.Stmt-F Stmt Case = is.Switch d (lower_cases cases k) in
        same_expression n f ms (roll-Stmt y) s r rest First First out around y x (out-roll-Stmt y) pl.first (Some d) refl refl (mark_added_alike x pl refl (λ c. absurd (cc)))
        (λ v ns e. at_found (found_case (number_in v) (lower_cases cases k)) (found_case (number_in v) cases) (found_lower k (number_in v) cases) (found_fit (in_tested_do around) (number_in v) cases (first_fit x pl)))
      where
        y : is.Stmt-F Stmt Case
        y = is.Switch d (lower_cases cases k)

        at_found : (g h : Option (ℕ × List Stmt)) → lists_of g ≡ option_map (λ l. lower_list l k) (lists_of h) → IsFoundFit (in_tested_do around) h →
            ControlsConverge P (jump_to (lower_program P) (control_at n f) (in_cases g (remainder (roll-Stmt y ∷ r) First) out)) (jump_to P (control_at n f) (in_cases h (remainder (s ∷ rest) First) around))
        at_found None None e i = resume_behind (is.Switch d cases) pl
        at_found (Some g) (Some h) e i =
            let same : g.1 ≡ lower_list h.1 k = cc in
            subst (λ (b : Remainder). ControlsConverge P (jump_to (lower_program P) (control_at n f) (resume g.1 (b ∷ out))) (jump_to P (control_at n f) (resume h.1 (inner (is.Switch d cases) pl)))) (sym (kept_enclosing y refl))
            (subst (λ (z : List Stmt). ControlsConverge P (jump_to (lower_program P) (control_at n f) (resume z (remainder (roll-Stmt y ∷ r) First ∷ out))) (jump_to P (control_at n f) (resume h.1 (inner (is.Switch d cases) pl)))) (append-nil (lower_list h.1 k) ∙ sym same)
            (resume_inside (is.Switch d cases) pl h.1 i))
        at_found None (Some h) e i = absurd (cc)
        at_found (Some g) None e i = absurd (cc)

    return_alike : (d : Option Expr) → IsAt P f s rest around (is.Return d) → Alike (q_at (is.Return d) ms) (p_at ms) (transition (lower_program P) (q_at (is.Return d) ms)) (transition P (p_at ms))
    return_alike d pl =
        same_expression n f ms (roll-Stmt (is.Return d)) s r rest First First out around (is.Return d) (is.Return d) (out-roll-Stmt (is.Return d)) pl.first d refl refl (mark_added_alike (is.Return d) pl refl (λ c. absurd (cc)))
        (λ v ns e. refl)

    -- ---- `break` and `continue`

    module _ (g : Func) (there : slice_get P.funcs f ≡ Some g) where
      abbrev BreaksAlike : List Remainder → Type 0
      BreaksAlike around = ControlsConverge P (jump_to (lower_program P) (control_at n f) (break_out (lowered_around around))) (jump_to P (control_at n f) (break_out around))

      breaks_past : (x : is.Stmt-F Stmt Case) (s : Stmt) → out-Stmt s ≡ x → (rest : List Stmt) (phase : Phase) (around : List Remainder) → is_left_by_break x ≡ false →
          break_out (lowered_around_in x (step_of around) (lowered_list rest around) (lowered_around around)) ≡ break_out (lowered_around around) → BreaksAlike around → BreaksAlike (remainder (s ∷ rest) phase ∷ around)
      breaks_past x s e rest phase around l h j =
          subst (λ (c : Continuation). ControlsConverge P (jump_to (lower_program P) (control_at n f) c) (jump_to P (control_at n f) (break_out (remainder (s ∷ rest) phase ∷ around)))) (sym (ap break_out (lowered_around-is s rest phase around x e) ∙ h))
          (subst (λ (c : Continuation). ControlsConverge P (jump_to (lower_program P) (control_at n f) (break_out (lowered_around around))) (jump_to P (control_at n f) c)) (sym (break_past s rest phase around x e l)) j)

      breaks_out : (x : is.Stmt-F Stmt Case) (s : Stmt) → out-Stmt s ≡ x → (rest : List Stmt) (phase : Phase) (around : List Remainder) → AreWellFormed around → are_fit (in_tested_do around) (s ∷ rest) ≡ true → is_left_by_break x ≡ true →
          break_out (lowered_around_in x (step_of around) (lowered_list rest around) (lowered_around around)) ≡ resume (lowered_list rest around) (lowered_around around) → BreaksAlike (remainder (s ∷ rest) phase ∷ around)
      breaks_out x s e rest phase around p i l h =
          subst (λ (c : Continuation). ControlsConverge P (jump_to (lower_program P) (control_at n f) c) (jump_to P (control_at n f) (break_out (remainder (s ∷ rest) phase ∷ around)))) (sym (ap break_out (lowered_around-is s rest phase around x e) ∙ h))
          (subst (λ (c : Continuation). ControlsConverge P (jump_to (lower_program P) (control_at n f) (resume (lowered_list rest around) (lowered_around around))) (jump_to P (control_at n f) c)) (sym (break_loop s rest phase around x e l))
          (resumes_alike P n f g there around rest p (both_right (is_fit s (in_tested_do around)) (are_fit (in_tested_do around) rest) i)).0)

      breaks_in : (x : is.Stmt-F Stmt Case) (s : Stmt) → out-Stmt s ≡ x → (rest : List Stmt) (phase : Phase) (around : List Remainder) → AreWellFormed around → are_fit (in_tested_do around) (s ∷ rest) ≡ true → BreaksAlike around → BreaksAlike (remainder (s ∷ rest) phase ∷ around)
      breaks_in (is.Do d) s e rest phase around p i j = breaks_past (is.Do d) s e rest phase around refl refl j
      breaks_in (is.If d these those) s e rest phase around p i j =
          breaks_past (is.If d these those) s e rest phase around refl (break_past (roll-Stmt (is.If d (lower_list these (step_of around)) (lower_list those (step_of around)))) (lowered_list rest around) First (lowered_around around) _ (out-roll-Stmt _) refl) j
      breaks_in (is.While d a) s e rest phase around p i j =
          breaks_out (is.While d a) s e rest phase around p i refl (break_test (guarded (needed_test (Some d)) (lower_list a [])) (lowered_list rest around) (lowered_around around) (needed_test (Some d)) (lower_list a []))
      breaks_in (is.DoWhile a d) s e rest phase around p i j =
          breaks_out (is.DoWhile a d) s e rest phase around p i refl (break_test (lower_list a [] ++ guarded (needed_test (Some d)) []) (lowered_list rest around) (lowered_around around) None [])
      breaks_in (is.For first test again a) s e rest phase around p i j =
          breaks_out (is.For first test again a) s e rest phase around p i refl
          (break_test (guarded (needed_test test) (lower_list a (optional_statement again) ++ optional_statement again)) (lowered_list rest around) (lowered_around around) (needed_test test) (lower_list a (optional_statement again) ++ optional_statement again))
      breaks_in (is.Switch d cases) s e rest phase around p i j =
          breaks_out (is.Switch d cases) s e rest phase around p i refl (break_loop (roll-Stmt (is.Switch d (lower_cases cases (step_of around)))) (lowered_list rest around) First (lowered_around around) _ (out-roll-Stmt _) refl)
      breaks_in is.Break s e rest phase around p i j = breaks_past is.Break s e rest phase around refl refl j
      breaks_in is.Continue s e rest phase around p i j = breaks_past is.Continue s e rest phase around refl refl j
      breaks_in (is.Return d) s e rest phase around p i j = breaks_past (is.Return d) s e rest phase around refl refl j
      breaks_in is.Empty s e rest phase around p i j = breaks_past is.Empty s e rest phase around refl refl j
      breaks_in (is.Block a) s e rest phase around p i j = breaks_past (is.Block a) s e rest phase around refl refl j

      breaks_alike : (around : List Remainder) → AreWellFormed around → BreaksAlike around
      breaks_alike [] p = Matches _ _ (AtFunctionEnd n f [] refl refl)
      breaks_alike (at ∷ around) p = by_rest (breaks_alike around p.2) at.rest at.phase p.1
        where
          by_rest : BreaksAlike around → (l : List Stmt) (phase : Phase) → are_fit (in_tested_do around) l ≡ true → BreaksAlike (remainder l phase ∷ around)
          by_rest j [] phase i = j
          by_rest j (s ∷ rest) phase i = breaks_in (out-Stmt s) s refl rest phase around p.2 i j

    break_alike : IsAt P f s rest around is.Break → Alike (q_at is.Break ms) (p_at ms) (transition (lower_program P) (q_at is.Break ms)) (transition P (p_at ms))
    break_alike pl =
        same_expression n f ms break_statement s r rest First First out around is.Break is.Break (out-roll-Stmt is.Break) pl.first None refl refl (mark_added_alike is.Break pl refl (λ c. absurd (cc)))
        (λ v ns e. breaks_alike pl.body pl.function around pl.well_formed)

    continue_alike : IsAt P f s rest around is.Continue → k ≡ [] → Alike (q_at is.Continue ms) (p_at ms) (transition (lower_program P) (q_at is.Continue ms)) (transition P (p_at ms))
    continue_alike pl c =
        subst (λ (l : List Stmt). Alike (control_of n f (remainder ((l ++ roll-Stmt is.Continue ∷ []) ++ r) First) out ms) (p_at ms) (transition (lower_program P) (control_of n f (remainder ((l ++ roll-Stmt is.Continue ∷ []) ++ r) First) out ms)) (transition P (p_at ms))) (sym c)
        (same_expression n f ms (roll-Stmt is.Continue) s r rest First First out around is.Continue is.Continue (out-roll-Stmt is.Continue) pl.first None refl refl
        (λ m. subst (λ (l : List Stmt). ControlsConverge P (mark_added (control_of n f (remainder ((l ++ roll-Stmt is.Continue ∷ []) ++ r) First) out ms) m) (mark_added (p_at ms) m)) c (mark_added_alike is.Continue pl refl (λ x. c) m))
        (λ v ns e. to (continue_target P n f pl.body pl.function around pl.well_formed)))
      where
        fit_here : not (in_tested_do around) ≡ true
        fit_here = first_fit is.Continue pl

        to : ContinueTarget P n f pl.body pl.function around → ControlsConverge P (jump_to (lower_program P) (control_at n f) (continue_on out)) (jump_to P (control_at n f) (continue_on around))
        to (NoLoop i j b) =
            subst (λ (x : Continuation). ControlsConverge P (jump_to (lower_program P) (control_at n f) x) (jump_to P (control_at n f) (continue_on around))) (sym j)
            (subst (λ (x : Continuation). ControlsConverge P (jump_to (lower_program P) (control_at n f) (remainder [] First, [])) (jump_to P (control_at n f) x)) (sym i) (Matches _ _ (AtFunctionEnd n f [] refl refl)))
        to (InLoop t behind outer x tl l i j b d) =
            subst (λ (x : Continuation). ControlsConverge P (jump_to (lower_program P) (control_at n f) x) (jump_to P (control_at n f) (continue_on around))) (sym j)
            (subst (λ (y : Continuation). ControlsConverge P (jump_to (lower_program P) (control_at n f) (loop_remainder (loop_body x) (lowered_list behind outer), lowered_around outer)) (jump_to P (control_at n f) y)) (sym i)
            (subst (λ (q : ControlState). ControlsConverge P q (jump_to P (control_at n f) (remainder (t ∷ behind) (behind_body x), outer))) (sym (jump_endless P n f pl.body pl.function (loop_body x) (lowered_list behind outer) (lowered_around outer))) (by_kind x tl l b d)))
          where
            at_test : (y : is.Stmt-F Stmt Case) → IsAt P f t behind outer y → is_loop y ≡ true → behind_body y ≡ Test → passed y Test ≡ None → loop_body y ≡ guarded (needed_test (test_of y)) (guarded_body y) →
                ControlsConverge P (control_of n f (loop_remainder (loop_body y) (lowered_list behind outer)) (lowered_around outer) []) (jump_to P (control_at n f) (remainder (t ∷ behind) (behind_body y), outer))
            at_test y tl l b w i =
                subst (λ (p : ControlState). ControlsConverge P (control_of n f (loop_remainder (loop_body y) (lowered_list behind outer)) (lowered_around outer) []) p)
                (sym (ap (λ (z : Phase). jump_to P (control_at n f) (remainder (t ∷ behind) z, outer)) b ∙ jump-is P n f t behind Test outer y tl.first w))
                (loop_converges P n f pl.body pl.function t behind outer y (needed_test (test_of y)) tl l refl i)

            never : (b : Bool) (d : Expr) → not (not b) ≡ true → needed_test_if b d ≡ None
            never true d h = refl
            never false d h = absurd (cc)

            at_do : (y : is.Stmt-F Stmt Case) → IsAt P f t behind outer y → is_loop y ≡ true → behind_body y ≡ Test → passed y Test ≡ None → needed_test (test_of y) ≡ None →
                ControlsConverge P (control_of n f (loop_remainder (loop_body y) (lowered_list behind outer)) (lowered_around outer) []) (jump_to P (control_at n f) (remainder (t ∷ behind) (behind_body y), outer))
            at_do y tl l b w i =
                subst (λ (p : ControlState). ControlsConverge P (control_of n f (loop_remainder (loop_body y) (lowered_list behind outer)) (lowered_around outer) []) p)
                (sym (ap (λ (z : Phase). jump_to P (control_at n f) (remainder (t ∷ behind) z, outer)) b ∙ jump-is P n f t behind Test outer y tl.first w))
                (Matches _ _ (AtLoop n f t behind outer y tl l i refl refl))

            by_kind : (y : is.Stmt-F Stmt Case) → IsAt P f t behind outer y → is_loop y ≡ true → step_of around ≡ step_in y [] → in_tested_do around ≡ tested_do_in y false →
                ControlsConverge P (control_of n f (loop_remainder (loop_body y) (lowered_list behind outer)) (lowered_around outer) []) (jump_to P (control_at n f) (remainder (t ∷ behind) (behind_body y), outer))
            by_kind (is.Do d) tl l b i = absurd (cc)
            by_kind (is.If d these those) tl l b i = absurd (cc)
            by_kind (is.While d a) tl l b i = at_test (is.While d a) tl refl refl refl refl
            by_kind (is.DoWhile a d) tl l b i = at_do (is.DoWhile a d) tl refl refl refl (never (is_nonzero_constant d) d (sym (ap not i) ∙ fit_here))
            by_kind (is.For first test None a) tl l b i = at_test (is.For first test None a) tl refl refl refl refl
            by_kind (is.For first test (Some d) a) tl l b i = (let x : [] ≡ expression_statement d ∷ [] = sym c ∙ b in absurd (cc))
            by_kind (is.Switch d cases) tl l b i = absurd (cc)
            by_kind is.Break tl l b i = absurd (cc)
            by_kind is.Continue tl l b i = absurd (cc)
            by_kind (is.Return d) tl l b i = absurd (cc)
            by_kind is.Empty tl l b i = absurd (cc)
            by_kind (is.Block a) tl l b i = absurd (cc)

    same_alike : (x : is.Stmt-F Stmt Case) → IsAt P f s rest around x → is_kept x ≡ true → (is_continue x ≡ true → k ≡ []) → Alike (q_at x ms) (p_at ms) (transition (lower_program P) (q_at x ms)) (transition P (p_at ms))
    same_alike (is.Do d) pl i c = do_alike d pl
    same_alike (is.If d these those) pl i c = if_alike d these those pl
    same_alike (is.While d a) pl i c = absurd (cc)
    same_alike (is.DoWhile a d) pl i c = absurd (cc)
    same_alike (is.For first test again a) pl i c = absurd (cc)
    same_alike (is.Switch d cases) pl i c = switch_alike d cases pl
    same_alike is.Break pl i c = break_alike pl
    same_alike is.Continue pl i c = continue_alike pl (c refl)
    same_alike (is.Return d) pl i c = return_alike d pl
    same_alike is.Empty pl i c = absurd (cc)
    same_alike (is.Block a) pl i c = absurd (cc)

    -- ---- loops

    abbrev p_test : List Mark → ControlState
    p_test ms = control_of n f (remainder (s ∷ rest) Test) around ms

    abbrev loop : is.Stmt-F Stmt Case → Remainder
    loop x = loop_remainder (loop_body x) r

    abbrev q_test : is.Stmt-F Stmt Case → Expr → List Mark → ControlState
    q_test x e ms = control_of n f (remainder (test_statement e (guarded_body x) ∷ []) First) (loop x ∷ out) ms

    module _ (x : is.Stmt-F Stmt Case) (e : Expr) (pl : IsAt P f s rest around x) (l : is_loop x ≡ true) (h : needed_test (test_of x) ≡ Some e) where
      abbrev test_form : is.Stmt-F Stmt Case
      test_form = is.If e (guarded_body x) (break_statement ∷ [])

      -- a test that fails: out of the loop, by a `break`
      leaves_loop : ControlsConverge P (jump_to (lower_program P) (control_at n f) (resume (break_statement ∷ []) (remainder (test_statement e (guarded_body x) ∷ []) First ∷ loop x ∷ out))) (jump_to P (control_at n f) (resume rest around))
      leaves_loop =
          subst (λ (q : ControlState). ControlsConverge P q (jump_to P (control_at n f) (resume rest around)))
          (sym (jump_begin-is (lower_program P) n f break_statement [] (remainder (test_statement e (guarded_body x) ∷ []) First ∷ loop x ∷ out) is.Break (out-roll-Stmt is.Break) refl refl))
          (QJumps _ _ _ (jumps_by P n f pl.body pl.function is.Break [] (remainder (test_statement e (guarded_body x) ∷ []) First ∷ loop x ∷ out) refl refl)
          (subst (λ (c : Continuation). ControlsConverge P (jump_to (lower_program P) (control_at n f) c) (jump_to P (control_at n f) (resume rest around))) (sym (break_test (loop_body x) r out (Some e) (guarded_body x))) (resume_behind x pl)))

      behind_test : (body : List Stmt) → ControlsConverge P (jump_to (lower_program P) (control_at n f) (resume (guarded_body x) (remainder (test_statement e (guarded_body x) ∷ []) First ∷ loop x ∷ out))) (jump_to P (control_at n f) (resume body (inner x pl))) → (b : Bool) →
          ControlsConverge P (jump_to (lower_program P) (control_at n f) (in_arm b (guarded_body x) (break_statement ∷ []) (enclosing (remainder (test_statement e (guarded_body x) ∷ []) First) ∷ loop x ∷ out))) (jump_to P (control_at n f) (in_loop b body (remainder (s ∷ rest) Test) around))
      behind_test body j b =
          subst (λ (c : Remainder). ControlsConverge P (jump_to (lower_program P) (control_at n f) (in_arm b (guarded_body x) (break_statement ∷ []) (c ∷ loop x ∷ out))) (jump_to P (control_at n f) (in_loop b body (remainder (s ∷ rest) Test) around)))
          (sym (ap (λ (z : is.Stmt-F Stmt Case). remainder (test_statement e (guarded_body x) ∷ []) (behind_body z)) (out-roll-Stmt test_form))) (either b)
        where
          either : (b : Bool) → ControlsConverge P (jump_to (lower_program P) (control_at n f) (in_arm b (guarded_body x) (break_statement ∷ []) (remainder (test_statement e (guarded_body x) ∷ []) First ∷ loop x ∷ out))) (jump_to P (control_at n f) (in_loop b body (remainder (s ∷ rest) Test) around))
          either true = j
          either false = leaves_loop

      test_mark_alike : (m : Mark) → ControlsConverge P (mark_added (q_test x e ms) m) (mark_added (p_test ms) m)
      test_mark_alike m = Matches _ _ (AtTest n f s rest around x (ms ++ m ∷ []) e pl l h refl refl)

      test_is : test_of x ≡ Some e
      test_is = needed_some (test_of x) e h

    while_alike : (d : Expr) (a : List Stmt) (e : Expr) → IsAt P f s rest around (is.While d a) → needed_test (Some d) ≡ Some e →
        Alike (q_test (is.While d a) e ms) (p_test ms) (transition (lower_program P) (q_test (is.While d a) e ms)) (transition P (p_test ms))
    while_alike d a e pl h =
        let x : is.Stmt-F Stmt Case = is.While d a in
        let body : ControlsConverge P (jump_to (lower_program P) (control_at n f) (resume (lower_list a []) (remainder (test_statement e (lower_list a []) ∷ []) First ∷ loop x ∷ out))) (jump_to P (control_at n f) (resume a (inner x pl))) =
        subst (λ (z : List Stmt). ControlsConverge P (jump_to (lower_program P) (control_at n f) (resume z (remainder (test_statement e (lower_list a []) ∷ []) First ∷ loop x ∷ out))) (jump_to P (control_at n f) (resume a (inner x pl)))) (append-nil (lower_list a []))
        (subst (λ (t : Option Expr). ControlsConverge P (jump_to (lower_program P) (control_at n f) (resume (lower_list a [] ++ []) (inside_test t (lower_list a []) (loop x ∷ out)))) (jump_to P (control_at n f) (resume a (inner x pl)))) h (resume_inside x pl a (first_fit x pl))) in
        same_expression n f ms (test_statement e (lower_list a [])) s [] rest First Test (loop x ∷ out) around (test_form x e pl refl h) x (out-roll-Stmt (test_form x e pl refl h)) pl.first (Some e) refl (test_is x e pl refl h)
        (test_mark_alike x e pl refl h) (λ v ns k. behind_test x e pl refl h a body (is_true v))

    -- into the body of a `do`
    into_do_again : (a : List Stmt) (d : Expr) (pl : IsAt P f s rest around (is.DoWhile a d)) → ControlsConverge P (control_of n f (loop (is.DoWhile a d)) out []) (jump_to P (control_at n f) (resume a (inner (is.DoWhile a d) pl)))
    into_do_again a d pl = jumps_in P n f pl.body pl.function (loop_body (is.DoWhile a d)) r out _ (resume_inside (is.DoWhile a d) pl a (first_fit (is.DoWhile a d) pl))

    do_while_alike : (a : List Stmt) (d : Expr) (e : Expr) → IsAt P f s rest around (is.DoWhile a d) → needed_test (Some d) ≡ Some e →
        Alike (q_test (is.DoWhile a d) e ms) (p_test ms) (transition (lower_program P) (q_test (is.DoWhile a d) e ms)) (transition P (p_test ms))
    do_while_alike a d e pl h =
        let x : is.Stmt-F Stmt Case = is.DoWhile a d in
        let body : ControlsConverge P (jump_to (lower_program P) (control_at n f) (resume [] (remainder (test_statement e [] ∷ []) First ∷ loop x ∷ out))) (jump_to P (control_at n f) (resume a (inner x pl))) =
        subst (λ (q : ControlState). ControlsConverge P q (jump_to P (control_at n f) (resume a (inner x pl))))
        (sym (ap (jump_to (lower_program P) (control_at n f)) (resume_test (loop_body x) r out (Some e) []) ∙ jump_endless P n f pl.body pl.function (loop_body x) r out)) (into_do_again a d pl) in
        same_expression n f ms (test_statement e []) s [] rest First Test (loop x ∷ out) around (test_form x e pl refl h) x (out-roll-Stmt (test_form x e pl refl h)) pl.first (Some e) refl (test_is x e pl refl h)
        (test_mark_alike x e pl refl h) (λ v ns k. behind_test x e pl refl h a body (is_true v))

    for_alike : (first test again : Option Expr) (a : List Stmt) (e : Expr) → IsAt P f s rest around (is.For first test again a) → needed_test test ≡ Some e →
        Alike (q_test (is.For first test again a) e ms) (p_test ms) (transition (lower_program P) (q_test (is.For first test again a) e ms)) (transition P (p_test ms))
    for_alike first test again a e pl h =
        let x : is.Stmt-F Stmt Case = is.For first test again a in
        let inside : List Stmt = guarded_body x in
        let body : ControlsConverge P (jump_to (lower_program P) (control_at n f) (resume inside (remainder (test_statement e inside ∷ []) First ∷ loop x ∷ out))) (jump_to P (control_at n f) (resume a (inner x pl))) =
        subst (λ (t : Option Expr). ControlsConverge P (jump_to (lower_program P) (control_at n f) (resume inside (inside_test t inside (loop x ∷ out)))) (jump_to P (control_at n f) (resume a (inner x pl)))) h (resume_inside x pl a (first_fit x pl)) in
        same_expression n f ms (test_statement e inside) s [] rest First Test (loop x ∷ out) around (test_form x e pl refl h) x (out-roll-Stmt (test_form x e pl refl h)) pl.first (Some e) refl (test_is x e pl refl h)
        (λ m. subst (λ (p : ControlState). ControlsConverge P (mark_added (q_test x e ms) m) p) (sym (mark_settles m)) (test_mark_alike x e pl refl h m))
        (λ v ns k. subst (λ (t : Option Expr). ControlsConverge P (jump_to (lower_program P) (control_at n f) (in_arm (is_true v) inside (break_statement ∷ []) (enclosing (remainder (test_statement e inside ∷ []) First) ∷ loop x ∷ out))) (jump_to P (control_at n f) (in_loop (is_passed t v) a (remainder (s ∷ rest) Test) around)))
        (sym (test_is x e pl refl h)) (behind_test x e pl refl h a body (is_true v)))
      where
        mark_settles : (m : Mark) → settled_control_in P (is.For first test again a) (mark_added (p_test ms) m) ≡ mark_added (p_test ms) m
        mark_settles m = ap (λ (y : is.Stmt-F Stmt Case). if is_past P n f (ms ++ m ∷ []) (passed y Test) then at_continuation (mark_added (p_test ms) m) (remainder (s ∷ rest) Test, around) else mark_added (p_test ms) m) pl.first

    test_alike : (x : is.Stmt-F Stmt Case) (e : Expr) → IsAt P f s rest around x → is_loop x ≡ true → needed_test (test_of x) ≡ Some e → Alike (q_test x e ms) (p_test ms) (transition (lower_program P) (q_test x e ms)) (transition P (p_test ms))
    test_alike (is.Do d) e pl l h = absurd (cc)
    test_alike (is.If d these those) e pl l h = absurd (cc)
    test_alike (is.While d a) e pl l h = while_alike d a e pl h
    test_alike (is.DoWhile a d) e pl l h = do_while_alike a d e pl h
    test_alike (is.For first test again a) e pl l h = for_alike first test again a e pl h
    test_alike (is.Switch d cases) e pl l h = absurd (cc)
    test_alike is.Break e pl l h = absurd (cc)
    test_alike is.Continue e pl l h = absurd (cc)
    test_alike (is.Return d) e pl l h = absurd (cc)
    test_alike is.Empty e pl l h = absurd (cc)
    test_alike (is.Block a) e pl l h = absurd (cc)

    -- ---- a loop whose test is left out

    abbrev q_loop : is.Stmt-F Stmt Case → ControlState
    q_loop x = control_of n f (loop x) out []

    always_by : (b : Bool) (d : Expr) → needed_test_if b d ≡ None → b ≡ true
    always_by true d h = refl
    always_by false d h = absurd (cc)

    -- the value of such a test lets the loop go on
    passes : (pl : Func) → slice_get P.funcs f ≡ Some pl → (t : Option Expr) → needed_test t ≡ None → (v : Value) × (progress_there P (p_test []) t ≡ Known (Some v) []) × (is_passed t v ≡ true)
    passes g there None h = (no_value, nothing-known P n f g there [], refl)
    passes g there (Some d) h =
        let x = nonzero_holds (record { program = P; number = n; id = f; func = g }) [] d (always_by (is_nonzero_constant d) d h) in
        (x.0, ap (λ (h : Option Func). progress_in P n f [] h (Some d)) there ∙ x.1, x.2)

    endless_alike : (x : is.Stmt-F Stmt Case) (body : List Stmt) → IsAt P f s rest around x → needed_test (test_of x) ≡ None → worked x Test ≡ test_of x → is_return x ≡ false →
        ((v : Value) → next_continuation x (remainder (s ∷ rest) Test) around v ≡ in_loop (is_passed (test_of x) v) body (remainder (s ∷ rest) Test) around) →
        ((pl : IsAt P f s rest around x) → ControlsConverge P (jump_to (lower_program P) (control_at n f) (resume (loop_body x) (loop x ∷ out))) (jump_to P (control_at n f) (resume body (inner x pl)))) → Alike (q_loop x) (p_test []) (transition (lower_program P) (q_loop x)) (transition P (p_test []))
    endless_alike x body pl h w i z j =
        let y = passes pl.body pl.function (test_of x) h in
        let dq : transition (lower_program P) (q_loop x) ≡ Jumps (jump_to (lower_program P) (control_at n f) (resume (loop_body x) (loop x ∷ out))) = into_body P n f pl.body pl.function (loop_body x) r out in
        let dp : transition P (p_test []) ≡ Jumps (jump_to P (control_at n f) (resume body (inner x pl))) =
        transition-is P n f s rest Test around [] x pl.first ∙ transition_known P n f pl.body pl.function P x (p_test []) _ y.0 [] i (ap (progress_there P (p_test [])) w ∙ y.1)
        ∙ ap (λ (c : Continuation). Jumps (jump_to P (control_at n f) c)) (z y.0 ∙ ap (λ (b : Bool). in_loop b body (remainder (s ∷ rest) Test) around) y.2) in
        subst (λ (e : Transition). Alike (q_loop x) (p_test []) e (transition P (p_test []))) (sym dq) (subst (λ (e : Transition). Alike (q_loop x) (p_test []) (Jumps (jump_to (lower_program P) (control_at n f) (resume (loop_body x) (loop x ∷ out)))) e) (sym dp) (j pl))

    loop_alike : (x : is.Stmt-F Stmt Case) → IsAt P f s rest around x → is_loop x ≡ true → needed_test (test_of x) ≡ None → Alike (q_loop x) (p_test []) (transition (lower_program P) (q_loop x)) (transition P (p_test []))
    loop_alike (is.Do d) pl l h = absurd (cc)
    loop_alike (is.If d these those) pl l h = absurd (cc)
    loop_alike (is.While d a) pl l h =
        endless_alike (is.While d a) a pl h refl refl (λ v. refl)
        (λ pl. subst (λ (t : List Stmt). ControlsConverge P (jump_to (lower_program P) (control_at n f) (resume t (loop (is.While d a) ∷ out))) (jump_to P (control_at n f) (resume a (inner (is.While d a) pl)))) (append-nil (lower_list a []) ∙ sym (ap (λ (t : Option Expr). guarded t (lower_list a [])) h))
        (subst (λ (t : Option Expr). ControlsConverge P (jump_to (lower_program P) (control_at n f) (resume (lower_list a [] ++ []) (inside_test t (lower_list a []) (loop (is.While d a) ∷ out)))) (jump_to P (control_at n f) (resume a (inner (is.While d a) pl)))) h
        (resume_inside (is.While d a) pl a (first_fit (is.While d a) pl))))
    loop_alike (is.DoWhile a d) pl l h =
        endless_alike (is.DoWhile a d) a pl h refl refl (λ v. refl) (λ pl. resume_inside (is.DoWhile a d) pl a (first_fit (is.DoWhile a d) pl))
    loop_alike (is.For first test again a) pl l h =
        endless_alike (is.For first test again a) a pl h refl refl (λ v. refl)
        (λ pl. subst (λ (t : List Stmt). ControlsConverge P (jump_to (lower_program P) (control_at n f) (resume t (loop (is.For first test again a) ∷ out))) (jump_to P (control_at n f) (resume a (inner (is.For first test again a) pl)))) (sym (ap (λ (t : Option Expr). guarded t (guarded_body (is.For first test again a))) h))
        (subst (λ (t : Option Expr). ControlsConverge P (jump_to (lower_program P) (control_at n f) (resume (guarded_body (is.For first test again a)) (inside_test t (guarded_body (is.For first test again a)) (loop (is.For first test again a) ∷ out)))) (jump_to P (control_at n f) (resume a (inner (is.For first test again a) pl)))) h
        (resume_inside (is.For first test again a) pl a (first_fit (is.For first test again a) pl))))
    loop_alike (is.Switch d cases) pl l h = absurd (cc)
    loop_alike is.Break pl l h = absurd (cc)
    loop_alike is.Continue pl l h = absurd (cc)
    loop_alike (is.Return d) pl l h = absurd (cc)
    loop_alike is.Empty pl l h = absurd (cc)
    loop_alike (is.Block a) pl l h = absurd (cc)

    -- ---- the first expression of a `for`, and its step

    for_first_alike : (d : Expr) (test again : Option Expr) (a : List Stmt) → IsAt P f s rest around (is.For (Some d) test again a) → is_known (progress_there P (control_of n f (remainder [] First) [] ms) (Some d)) ≡ false →
        Alike (control_of n f (remainder (expression_statement d ∷ endless_loop (loop_body (is.For (Some d) test again a)) ∷ r) First) out ms) (p_at ms) (transition (lower_program P) (control_of n f (remainder (expression_statement d ∷ endless_loop (loop_body (is.For (Some d) test again a)) ∷ r) First) out ms)) (transition P (p_at ms))
    for_first_alike d test again a pl h =
        let x : is.Stmt-F Stmt Case = is.For (Some d) test again a in
        let q : ControlState = control_of n f (remainder (expression_statement d ∷ endless_loop (loop_body x) ∷ r) First) out ms in
        same_expression n f ms (expression_statement d) s (endless_loop (loop_body x) ∷ r) rest First First out around (is.Do d) x (out-roll-Stmt (is.Do d)) pl.first (Some d) refl refl
        (λ m. subst (λ (z : Progress (Option Value)). ControlsConverge P (if is_known z then jump_to (lower_program P) (mark_added q m) (resume (endless_loop (loop_body x) ∷ r) out) else mark_added q m) (settled_control_in P x (mark_added (p_at ms) m))) (sym (progress_alike P (mark_added q m) (Some d)))
        (subst (λ (y : is.Stmt-F Stmt Case). ControlsConverge P (if is_known (progress_there P (mark_added q m) (Some d)) then jump_to (lower_program P) (mark_added q m) (resume (endless_loop (loop_body x) ∷ r) out) else mark_added q m)
        (if is_past P n f (ms ++ m ∷ []) (passed y First) then at_continuation (mark_added (p_at ms) m) (remainder (s ∷ rest) Test, around) else mark_added (p_at ms) m)) (sym pl.first)
        (either m (is_known (progress_there P (mark_added q m) (Some d))) refl)))
        (λ v ns k. not-known (progress_there P (p_at ms) (Some d)) v ns h k)
      where
        either : (m : Mark) (b : Bool) → is_known (progress_there P (control_of n f (remainder [] First) [] (ms ++ m ∷ [])) (Some d)) ≡ b →
            ControlsConverge P (if b then jump_to (lower_program P) (control_at n f) (resume (endless_loop (loop_body (is.For (Some d) test again a)) ∷ r) out) else control_of n f (remainder (expression_statement d ∷ endless_loop (loop_body (is.For (Some d) test again a)) ∷ r) First) out (ms ++ m ∷ []))
            (if b then control_of n f (remainder (s ∷ rest) Test) around [] else p_at (ms ++ m ∷ []))
        either m true k =
            subst (λ (q : ControlState). ControlsConverge P q (p_test [])) (sym (jump_begin_endless P n f pl.body pl.function (loop_body (is.For (Some d) test again a)) r out))
            (loop_converges P n f pl.body pl.function s rest around (is.For (Some d) test again a) (needed_test test) pl refl refl refl)
        either m false k = Matches _ _ (AtFirst n f s rest around d test again a (ms ++ m ∷ []) pl k refl refl)

    for_step_alike : (first test : Option Expr) (d : Expr) (a : List Stmt) (more : List Stmt) (levels : List Remainder) → IsAt P f s rest around (is.For first test (Some d) a) → is_known (progress_there P (control_of n f (remainder [] First) [] ms) (Some d)) ≡ false →
        ReturnsToLoop P (loop (is.For first test (Some d) a)) out more levels →
        Alike (control_of n f (remainder (expression_statement d ∷ more) First) levels ms) (control_of n f (remainder (s ∷ rest) Again) around ms) (transition (lower_program P) (control_of n f (remainder (expression_statement d ∷ more) First) levels ms)) (transition P (control_of n f (remainder (s ∷ rest) Again) around ms))
    for_step_alike first test d a more levels pl h back =
        let x : is.Stmt-F Stmt Case = is.For first test (Some d) a in
        let q : ControlState = control_of n f (remainder (expression_statement d ∷ more) First) levels ms in
        let p : ControlState = control_of n f (remainder (s ∷ rest) Again) around ms in
        same_expression n f ms (expression_statement d) s more rest First Again levels around (is.Do d) x (out-roll-Stmt (is.Do d)) pl.first (Some d) refl refl
        (λ m. subst (λ (z : Progress (Option Value)). ControlsConverge P (if is_known z then jump_to (lower_program P) (mark_added q m) (resume more levels) else mark_added q m) (settled_control_in P x (mark_added p m))) (sym (progress_alike P (mark_added q m) (Some d)))
        (subst (λ (y : is.Stmt-F Stmt Case). ControlsConverge P (if is_known (progress_there P (mark_added q m) (Some d)) then jump_to (lower_program P) (mark_added q m) (resume more levels) else mark_added q m)
        (if is_past P n f (ms ++ m ∷ []) (passed y Again) then at_continuation (mark_added p m) (remainder (s ∷ rest) Test, around) else mark_added p m)) (sym pl.first)
        (either m (is_known (progress_there P (mark_added q m) (Some d))) refl)))
        (λ v ns k. not-known (progress_there P p (Some d)) v ns h k)
      where
        either : (m : Mark) (b : Bool) → is_known (progress_there P (control_of n f (remainder [] First) [] (ms ++ m ∷ [])) (Some d)) ≡ b →
            ControlsConverge P (if b then jump_to (lower_program P) (control_at n f) (resume more levels) else control_of n f (remainder (expression_statement d ∷ more) First) levels (ms ++ m ∷ []))
            (if b then control_of n f (remainder (s ∷ rest) Test) around [] else control_of n f (remainder (s ∷ rest) Again) around (ms ++ m ∷ []))
        either m true k = back_to_loop P n f pl.body pl.function s rest around first test d a pl more levels back
        either m false k = Matches _ _ (AtStep n f s rest around first test d a more levels (ms ++ m ∷ []) pl k back refl refl)

  -- ---- all related positions

  alike_at : (q p q' p' : ControlState) → q ≡ q' → p ≡ p' → Alike q' p' (transition (lower_program P) q') (transition P p') → Alike q p (transition (lower_program P) q) (transition P p)
  alike_at q p q' p' e h a = subst (λ (q : ControlState). Alike q p (transition (lower_program P) q) (transition P p)) (sym e) (subst (λ (p : ControlState). Alike q' p (transition (lower_program P) q') (transition P p)) (sym h) a)

  pub alike : (q p : ControlState) → Match P q p → Alike q p (transition (lower_program P) q) (transition P p)
  alike q p (AtStatement n f s rest around x ms pl i c ep eq) = alike_at q p _ _ eq ep (same_alike n f s rest around ms x pl i c)
  alike q p (AtFunctionEnd n f ms ep eq) = alike_at q p _ _ eq ep tt
  alike q p (AtTest n f s rest around x ms e pl l h ep eq) = alike_at q p _ _ eq ep (test_alike n f s rest around ms x e pl l h)
  alike q p (AtLoop n f s rest around x pl l h ep eq) = alike_at q p _ _ eq ep (loop_alike n f s rest around [] x pl l h)
  alike q p (AtFirst n f s rest around d test again a ms pl h ep eq) = alike_at q p _ _ eq ep (for_first_alike n f s rest around ms d test again a pl h)
  alike q p (AtStep n f s rest around first test d a more levels ms pl h back ep eq) = alike_at q p _ _ eq ep (for_step_alike n f s rest around ms first test d a more levels pl h back)

  -- ---- boundaries

  first_boundary : (y : is.Stmt-F Stmt Case) (l : List Stmt) (phase : Phase) (out : List Remainder) (n f : ℕ) (ms : List Mark) → begins_at y phase ≡ true → is_empty ms ≡ true → is_at_boundary (control_of n f (remainder (roll-Stmt y ∷ l) phase) out ms) ≡ true
  first_boundary y l phase _ n f ms b e = ap (λ (c : Bool). c && begins_at (out-Stmt (roll-Stmt y)) phase) e ∙ ap (λ (z : is.Stmt-F Stmt Case). begins_at z phase) (out-roll-Stmt y) ∙ b

  kept_boundary : (x : is.Stmt-F Stmt Case) (k r : List Stmt) (out : List Remainder) (n f : ℕ) (ms : List Mark) → is_kept x ≡ true → (is_continue x ≡ true → k ≡ []) → is_empty ms ≡ true → is_at_boundary (control_of n f (remainder (lower_layer x k ++ r) First) out ms) ≡ true
  kept_boundary (is.Do d) k r out n f ms i c e = first_boundary (is.Do d) r First out n f ms refl e
  kept_boundary (is.If d these those) k r out n f ms i c e = first_boundary (is.If d (lower_list these k) (lower_list those k)) r First out n f ms refl e
  kept_boundary (is.While d a) k r out n f ms i c e = absurd (cc)
  kept_boundary (is.DoWhile a d) k r out n f ms i c e = absurd (cc)
  kept_boundary (is.For first test again a) k r out n f ms i c e = absurd (cc)
  kept_boundary (is.Switch d cases) k r out n f ms i c e = first_boundary (is.Switch d (lower_cases cases k)) r First out n f ms refl e
  kept_boundary is.Break k r out n f ms i c e = first_boundary is.Break r First out n f ms refl e
  kept_boundary is.Continue k r out n f ms i c e =
      subst (λ (l : List Stmt). is_at_boundary (control_of n f (remainder ((l ++ roll-Stmt is.Continue ∷ []) ++ r) First) out ms) ≡ true) (sym (c refl)) (first_boundary is.Continue r First out n f ms refl e)
  kept_boundary (is.Return d) k r out n f ms i c e = first_boundary (is.Return d) r First out n f ms refl e
  kept_boundary is.Empty k r out n f ms i c e = absurd (cc)
  kept_boundary (is.Block a) k r out n f ms i c e = absurd (cc)

  -- at a boundary of the source no step of the full expression is done, so the lowered program is at one
  boundary_at : (q p q' p' : ControlState) → q ≡ q' → p ≡ p' → (is_empty p'.marks ≡ true → is_at_boundary q' ≡ true) → is_at_boundary p ≡ true → is_at_boundary q ≡ true
  boundary_at q p q' p' e h j b = ap is_at_boundary e ∙ j (both_left (is_empty p'.marks) _ (sym (ap is_at_boundary h) ∙ b))

  pub boundary : (q p : ControlState) → Match P q p → is_at_boundary p ≡ true → is_at_boundary q ≡ true
  boundary q p (AtStatement n f s rest around x ms pl i c ep eq) b = boundary_at q p _ _ eq ep (λ e. kept_boundary x (step_of around) (lowered_list rest around) (lowered_around around) n f ms i c e) b
  boundary q p (AtFunctionEnd n f ms ep eq) b = ap is_at_boundary eq ∙ sym (ap is_at_boundary ep) ∙ b
  boundary q p (AtTest n f s rest around x ms e pl l h ep eq) b = boundary_at q p _ _ eq ep (λ z. first_boundary (is.If e (guarded_body x) (break_statement ∷ [])) [] First (loop_remainder (loop_body x) (lowered_list rest around) ∷ lowered_around around) n f ms refl z) b
  boundary q p (AtLoop n f s rest around x pl l h ep eq) b = boundary_at q p _ _ eq ep (λ z. first_boundary (is.While constant_one (loop_body x)) (lowered_list rest around) Test (lowered_around around) n f [] refl refl) b
  boundary q p (AtFirst n f s rest around d test again a ms pl h ep eq) b = boundary_at q p _ _ eq ep (λ z. first_boundary (is.Do d) (endless_loop (loop_body (is.For (Some d) test again a)) ∷ lowered_list rest around) First (lowered_around around) n f ms refl z) b
  boundary q p (AtStep n f s rest around first test d a more levels ms pl h back ep eq) b = boundary_at q p _ _ eq ep (λ z. first_boundary (is.Do d) more First levels n f ms refl z) b
