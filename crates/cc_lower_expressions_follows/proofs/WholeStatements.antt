-- The control of p that works the full expression of a statement goes on as the tree of that expression.
use Rattle.std.proofs.Common.{◌≡◌, inr, Bool, true, false, ◌&&◌, List, [], ◌∷◌, ◌++◌, Option, Some, None, refl, ap, sym, ◌∙◌, subst, append_assoc, append-nil, if◌then◌else◌}
use Rattle.std.specs.Prelude.{slice_get}
use Rattle.std.proofs.Math.Path.{fun_ext}
use Rattle.cc_states.specs.CcControl.declared.phase.Phase.{Phase}
use Rattle.cc_states.specs.CcEval.declared.mark.Mark.{Mark}
use Rattle.cc_states.specs.CcEval.declared.action.Action.{Action}
use Rattle.cc_states.specs.CcEval.Progress.{Progress, Known, Waits, Traps, Get, known, and_then, needs}
use Rattle.cc_states.specs.CcEval.Marks.{UsesFirst}
use Rattle.cc_program.specs.declared.expr.Expr.{Expr}
use Rattle.cc_program.specs.declared.func.Func.{Func}
use Rattle.cc_program.specs.declared.stmt.Case.{Case}
use Rattle.cc_program.specs.declared.stmt.Stmt.{Stmt, out-Stmt}
use Rattle.cc_program.specs.declared.stmt.Stmt.TheOpen as is
use Rattle.cc_program.specs.declared.value.Value.{Value}
use Rattle.cc_states.specs.CcSteps.Runs.{is_empty, begins}
use Rattle.cc_states.specs.CcSteps.Step.{is_known, worked, progress_in}
use Rattle.cc_meaning_simulations.specs.Continuations.{Remainder, remainder, resume}
use Rattle.cc_meaning_simulations.specs.Transitions.{ControlState, is_at_boundary, jump_to, progress_there, settled_control_in, marked_control, Performs, Aborts, transition_in, transition}
use Rattle.cc_lower_expressions_follows.specs.Trees.{Setting, after}
use Rattle.cc_lower_expressions_follows.specs.Claims.{good}
use Rattle.cc_lower_expressions_follows.specs.WholeRegion.{is_do, control_in, nowhere, next_p, left_of, IsWorkedIn, InDo, InIf, InSwitch, InReturn, StillWorks, StandsInStatement, Working, Left}
use Rattle.cc_lower_expressions_follows.proofs.WholeRegions.{all_used}
use Rattle.cc_lower_expressions_follows.proofs.WholeTrees.{known_no_wait, known_no_trap}

-- the first step of what a bad value traps in
abbrev pub first_good : Progress (Option Value) → Progress Value
first_good p = and_then p (λ v. needs v known)

module _ (w : Setting) (function : slice_get w.p.funcs w.id ≡ Some w.from) (s : Stmt) (rest : List Stmt) (phase : Phase) (around : List Remainder) (e : Expr) (law : UsesFirst (next_p w e)) (works : IsWorkedIn (out-Stmt s) e) where
  abbrev here : Remainder
  here = remainder (s ∷ rest) phase

  abbrev pub with_marks : List Mark → ControlState
  with_marks ms = control_in w here around ms

  abbrev Stands : List Mark → ControlState → Get Value → Type 0
  Stands ms a t = StandsInStatement w s rest phase around e ms a t

  works_it : worked (out-Stmt s) phase ≡ Some e
  works_it = by_kind works
    where
      by_kind : IsWorkedIn (out-Stmt s) e → worked (out-Stmt s) phase ≡ Some e
      by_kind (InDo d) = ap (λ (x : is.Stmt-F Stmt Case). worked x phase) d
      by_kind (InIf a b d) = ap (λ (x : is.Stmt-F Stmt Case). worked x phase) d
      by_kind (InSwitch cases d) = ap (λ (x : is.Stmt-F Stmt Case). worked x phase) d
      by_kind (InReturn d) = ap (λ (x : is.Stmt-F Stmt Case). worked x phase) d

  progress_is : (ms : List Mark) → progress_there w.p (with_marks ms) (Some e) ≡ next_p w e ms
  progress_is ms = ap (λ (o : Option Func). progress_in w.p w.number w.id ms o (Some e)) function

  pub transition_is : (ms : List Mark) → transition w.p (with_marks ms) ≡ transition_in w.p (out-Stmt s) (with_marks ms) (next_p w e ms)
  transition_is ms =
      ap (λ (x : Option Expr). transition_in w.p (out-Stmt s) (with_marks ms) (progress_there w.p (with_marks ms) x)) works_it ∙
      ap (transition_in w.p (out-Stmt s) (with_marks ms)) (progress_is ms)

  first_is : (ms : List Mark) → good (left_of w e ms) [] ≡ first_good (next_p w e ms)
  first_is ms = ap (λ (x : List Mark). first_good (next_p w e x)) (append-nil ms)

  more_left : (ms : List Mark) (m : Mark) → after (good (left_of w e ms)) m ≡ good (left_of w e (ms ++ m ∷ []))
  more_left ms m = fun_ext (λ more. ap (λ (x : List Mark). first_good' x more) (sym (append_assoc ms (m ∷ []) more)))
    where
      first_good' : List Mark → List Mark → Progress Value
      first_good' x more = first_good (next_p w e x)

  -- ---- it waits for a step

  -- at the first step of the statement, or behind it
  abbrev pub IsSoon : ControlState → Get Value → Type 0
  IsSoon a t = is_at_boundary a ≡ true → (v : Value) × (t ≡ known v)

  pub record StepsTo (ms : List Mark) (a : ControlState) (t : Get Value) (action : Action) : Type 0 where
    pub performs : transition w.p a ≡ Performs action
    pub asked : next_p w e ms ≡ Waits action
    pub marked : (m : Mark) → Stands (ms ++ m ∷ []) (marked_control w.p a m) (after t m)
    pub soon : (m : Mark) → IsSoon (marked_control w.p a m) (after t m)

  abbrev waiting : {A : Type 0} → Action → Progress A
  waiting x = Waits x

  same_action : (x y : Action) → waiting {A = Value} x ≡ waiting y → x ≡ y
  same_action x y h = cc

  module _ (ms : List Mark) (m : Mark) (action : Action) (asked : next_p w e ms ≡ Waits action) where
    abbrev further : ControlState
    further = with_marks (ms ++ m ∷ [])

    not_empty : (l : List Mark) → is_empty (l ++ m ∷ []) ≡ false
    not_empty [] = refl
    not_empty (x ∷ l) = refl

    no_boundary : is_at_boundary further ≡ true → ⊥
    no_boundary h = let k : false ≡ true = sym (ap (λ (b : Bool). b && begins (s ∷ rest) phase) (not_empty ms)) ∙ h in absurd (cc)

    abbrev Behind : ControlState → Type 0
    Behind a = Stands (ms ++ m ∷ []) a (after (good (left_of w e ms)) m) × IsSoon a (after (good (left_of w e ms)) m)

    stays : (is_do (out-Stmt s) ≡ true → StillWorks w s rest phase around e (ms ++ m ∷ [])) → Behind further
    stays u = (Working refl (more_left ms m) u, λ h. absurd (no_boundary h))

    goes : is_do (out-Stmt s) ≡ true → (v : Value) (r : List Mark) → next_p w e (ms ++ m ∷ []) ≡ Known (Some v) r → Behind (jump_to w.p (nowhere w) (resume rest around))
    goes d v r k =
        let gone : after (good (left_of w e ms)) m ≡ known v =
        more_left ms m ∙ fun_ext (λ more. ap first_good (all_used (next_p w e) law ms m action (Some v) r asked k more)) in
        (Left v refl gone d, λ h. (v, gone))

    -- an expression statement
    done_by : out-Stmt s ≡ is.Do e → (p : Progress (Option Value)) → next_p w e (ms ++ m ∷ []) ≡ p → Behind (if is_known p then jump_to w.p (nowhere w) (resume rest around) else further)
    done_by d (Waits other) k = stays (λ h. inr (λ v r f. differ v r (sym f ∙ k)))
      where
        differ : (v : Value) (r : List Mark) → Known (Some v) r ≡ Waits other → ⊥
        differ v r f = absurd (cc)
    done_by d (Traps ks) k = stays (λ h. inr (λ v r f. differ v r (sym f ∙ k)))
      where
        differ : (v : Value) (r : List Mark) → Known (Some v) r ≡ Traps ks → ⊥
        differ v r f = absurd (cc)
    done_by d (Known None ks) k = stays (λ h. inr (λ v r f. differ v r (sym f ∙ k)))
      where
        differ : (v : Value) (r : List Mark) → ◌≡◌ {A = Progress (Option Value)} (Known (Some v) r) (Known None ks) → ⊥
        differ v r f = absurd (cc)
    done_by d (Known (Some v) ks) k = goes (ap is_do d) v ks k

    abbrev another : is.Stmt-F Stmt Case → Type 0
    another x = Behind (settled_control_in w.p x further)

    by_kind : IsWorkedIn (out-Stmt s) e → another (out-Stmt s)
    by_kind (InDo d) =
        subst another (sym d)
        (subst (λ (p : Progress (Option Value)). Behind (if is_known p then jump_to w.p (nowhere w) (resume rest around) else further)) (sym (progress_is (ms ++ m ∷ []))) (done_by d (next_p w e (ms ++ m ∷ [])) refl))
    by_kind (InIf a b d) = subst another (sym d) (stays (λ h. absurd (no_do (sym (ap is_do d) ∙ h))))
      where
        no_do : false ≡ true → ⊥
        no_do h = absurd (cc)
    by_kind (InSwitch cases d) = subst another (sym d) (stays (λ h. absurd (no_do (sym (ap is_do d) ∙ h))))
      where
        no_do : false ≡ true → ⊥
        no_do h = absurd (cc)
    by_kind (InReturn d) = subst another (sym d) (stays (λ h. absurd (no_do (sym (ap is_do d) ∙ h))))
      where
        no_do : false ≡ true → ⊥
        no_do h = absurd (cc)

    marked_there : Behind (marked_control w.p (with_marks ms) m)
    marked_there = by_kind works

  waits_by : (ms : List Mark) (action : Action) (p : Progress (Option Value)) → next_p w e ms ≡ p → first_good p ≡ Waits action → next_p w e ms ≡ Waits action
  waits_by ms action (Waits x) k h = k ∙ ap (λ (y : Action). Waits y) (same_action x action h)
  waits_by ms action (Traps ks) k h = absurd (cc)
  waits_by ms action (Known None ks) k h = absurd (cc)
  waits_by ms action (Known (Some v) ks) k h = absurd (cc)

  module _ (ms : List Mark) (action : Action) where
    steps_there : (a : ControlState) → with_marks ms ≡ a → (t : Get Value) → good (left_of w e ms) ≡ t → t [] ≡ Waits action → StepsTo ms a t action
    steps_there a i t j h =
        let asked : next_p w e ms ≡ Waits action = waits_by ms action (next_p w e ms) refl (sym (first_is ms) ∙ ap (λ (g : Get Value). g []) j ∙ h) in
        subst (λ (a : ControlState). StepsTo ms a t action) i
        (subst (λ (t : Get Value). StepsTo ms (with_marks ms) t action) j
        (record {
          performs = transition_is ms ∙ ap (transition_in w.p (out-Stmt s) (with_marks ms)) asked;
          asked = asked;
          marked = λ m. (marked_there ms m action asked).0;
          soon = λ m. (marked_there ms m action asked).1;
        }))

  pub steps_to : (ms : List Mark) (a : ControlState) (t : Get Value) → Stands ms a t → (action : Action) → t [] ≡ Waits action → StepsTo ms a t action
  steps_to ms a t (Working i j u) action h = steps_there ms action a (sym i) t (sym j) h
  steps_to ms a t (Left v i j d) action h = known_no_wait v t action j h

  -- ---- it traps

  aborts_by : (x : is.Stmt-F Stmt Case) (a : ControlState) (ks : List Mark) (p : Progress (Option Value)) → first_good p ≡ Traps ks → transition_in w.p x a p ≡ Aborts
  aborts_by x a ks (Waits action) h = absurd (cc)
  aborts_by x a ks (Traps ms) h = refl
  aborts_by x a ks (Known None ms) h = refl
  aborts_by x a ks (Known (Some v) ms) h = absurd (cc)

  pub aborts_there : (ms : List Mark) (a : ControlState) (t : Get Value) → Stands ms a t → (ks : List Mark) → t [] ≡ Traps ks → transition w.p a ≡ Aborts
  aborts_there ms a t (Working i j u) ks h =
      ap (transition w.p) i ∙ transition_is ms ∙ aborts_by (out-Stmt s) (with_marks ms) ks (next_p w e ms) (sym (first_is ms) ∙ ap (λ (g : Get Value). g []) (sym j) ∙ h)
  aborts_there ms a t (Left v i j d) ks h = known_no_trap v t ks j h

  -- ---- its value is known

  known_by : (v : Value) (p : Progress (Option Value)) → first_good p ≡ Known v [] → (r : List Mark) × (p ≡ Known (Some v) r)
  known_by v (Waits action) h = absurd (cc)
  known_by v (Traps ms) h = absurd (cc)
  known_by v (Known None ms) h = absurd (cc)
  known_by v (Known (Some u) ms) h = let k : u ≡ v = cc in (ms, ap (λ (x : Value). Known (Some x) ms) k)

  pub known_there : (ms : List Mark) (t : Get Value) (v : Value) → t ≡ good (left_of w e ms) → t ≡ known v → (r : List Mark) × (next_p w e ms ≡ Known (Some v) r)
  known_there ms t v j k = known_by v (next_p w e ms) (sym (first_is ms) ∙ ap (λ (g : Get Value). g []) (sym j ∙ k))
