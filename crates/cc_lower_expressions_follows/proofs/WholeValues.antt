-- The last statement of what a statement becomes: q works its pure expression, and then both have the value.
use Rattle.std.proofs.Common.{◌≡◌, ◌||◌, ℕ, Bool, true, false, List, [], ◌∷◌, ◌++◌, Option, Some, refl, ap, sym, ◌∙◌, subst, append_assoc, append-nil}
use Rattle.std.proofs.Math.Path.{fun_ext}
use Rattle.cc_states.specs.CcControl.declared.phase.Phase.TheVariants.{First}
use Rattle.cc_states.specs.CcEval.declared.mark.Mark.{Mark}
use Rattle.cc_states.specs.CcEval.Progress.{Known, Waits, Get}
use Rattle.cc_program.specs.declared.expr.Expr.{Expr}
use Rattle.cc_program.specs.declared.func.Func.{Func}
use Rattle.cc_program.specs.declared.stmt.Case.{Case}
use Rattle.cc_program.specs.declared.stmt.Stmt.{Stmt, out-Stmt}
use Rattle.cc_program.specs.declared.stmt.Stmt.TheOpen as is
use Rattle.cc_program.specs.declared.value.Value.{Value}
use Rattle.cc_states.specs.CcSteps.Runs.{begins_at}
use Rattle.cc_states.specs.CcSteps.Step.{worked, progress_in}
use Rattle.cc_meaning_simulations.specs.Continuations.{Remainder, remainder}
use Rattle.cc_meaning_simulations.specs.LocalSimulations.{Approaches, QGoes}
use Rattle.cc_meaning_simulations.specs.LocalSteps.{LocalState, Locals, local_state}
use Rattle.cc_meaning_simulations.specs.Transitions.{ControlState, is_at_boundary, progress_there, settled_control_in, marked_control, transition_in, transition}
use Rattle.cc_lower_expressions_follows.specs.Trees.{Regs, Setting, after, IsQuiet, Is, Steps, Runs}
use Rattle.cc_lower_expressions_follows.specs.Region.{next_q, rest_of}
use Rattle.cc_lower_expressions_follows.specs.Registered.{regs_in}
use Rattle.cc_lower_expressions_follows.specs.WholePlaces.{AllThere}
use Rattle.cc_lower_expressions_follows.specs.WholeRegion.{is_do, control_in, IsWorkedIn, InDo, InIf, InSwitch, InReturn}
use Rattle.cc_lower_expressions_follows.proofs.WholeBridge.{IsLowered, either_late}
use Rattle.cc_lower_expressions_follows.proofs.WholeSteps.{IsOf, quiet_leads}

module _ (w : Setting) (hidden : ℕ → ℕ → Bool) (lowered : IsLowered w hidden) (u : Stmt) (rest : List Stmt) (around : List Remainder) (x : Expr) (works : IsWorkedIn (out-Stmt u) x) (stays : is_do (out-Stmt u) ≡ false) where
  abbrev pub at_last : List Mark → ControlState
  at_last ms = control_in w (remainder (u ∷ rest) First) around ms

  works_it : worked (out-Stmt u) First ≡ Some x
  works_it = by_kind works
    where
      by_kind : IsWorkedIn (out-Stmt u) x → worked (out-Stmt u) First ≡ Some x
      by_kind (InDo d) = ap (λ (y : is.Stmt-F Stmt Case). worked y First) d
      by_kind (InIf a b d) = ap (λ (y : is.Stmt-F Stmt Case). worked y First) d
      by_kind (InSwitch cases d) = ap (λ (y : is.Stmt-F Stmt Case). worked y First) d
      by_kind (InReturn d) = ap (λ (y : is.Stmt-F Stmt Case). worked y First) d

  progress_is : (ms : List Mark) → progress_there w.q (at_last ms) (Some x) ≡ next_q w x ms
  progress_is ms = ap (λ (o : Option Func). progress_in w.q w.number w.id ms o (Some x)) lowered.function_q

  pub transition_last : (ms : List Mark) → transition w.q (at_last ms) ≡ transition_in w.q (out-Stmt u) (at_last ms) (next_q w x ms)
  transition_last ms =
      ap (λ (y : Option Expr). transition_in w.q (out-Stmt u) (at_last ms) (progress_there w.q (at_last ms) y)) works_it ∙
      ap (transition_in w.q (out-Stmt u) (at_last ms)) (progress_is ms)

  -- it stays there, with one more mark
  marked_last : (ms : List Mark) (m : Mark) → marked_control w.q (at_last ms) m ≡ at_last (ms ++ m ∷ [])
  marked_last ms m = by_kind works
    where
      by_kind : IsWorkedIn (out-Stmt u) x → settled_control_in w.q (out-Stmt u) (at_last (ms ++ m ∷ [])) ≡ at_last (ms ++ m ∷ [])
      by_kind (InDo d) = let k : true ≡ false = sym (ap is_do d) ∙ stays in absurd (cc)
      by_kind (InIf a b d) = ap (λ (y : is.Stmt-F Stmt Case). settled_control_in w.q y (at_last (ms ++ m ∷ []))) d
      by_kind (InSwitch cases d) = ap (λ (y : is.Stmt-F Stmt Case). settled_control_in w.q y (at_last (ms ++ m ∷ []))) d
      by_kind (InReturn d) = ap (λ (y : is.Stmt-F Stmt Case). settled_control_in w.q y (at_last (ms ++ m ∷ []))) d

  one_more : (ms : List Mark) (m : Mark) → after (rest_of w x ms) m ≡ rest_of w x (ms ++ m ∷ [])
  one_more ms m = fun_ext (λ more. ap (next_q w x) (sym (append_assoc ms (m ∷ []) more)))

  first_is : (ms : List Mark) → rest_of w x ms [] ≡ next_q w x ms
  first_is ms = ap (next_q w x) (append-nil ms)

  module _ (Match : LocalState → LocalState → Type 0) (pc : ControlState) (pl : Locals) where
    abbrev Nearing : Bool → ControlState → Locals → Type 0
    Nearing late qc ql = Approaches hidden w.q w.p Match late (local_state qc ql) (local_state pc pl)

    -- q works the expression quietly to its value, without changing registers in the end
    pub comes_to : (v : Option Value) (end : Regs) (g : Get (Option Value)) (t : Regs) → Runs w v end g t → (late : Bool) (ms : List Mark) (ql : Locals) → g ≡ rest_of w x ms → regs_in w.to ql ≡ t → AllThere w.to ql → (late ≡ false → is_at_boundary pc ≡ true → ms ≡ []) →
        ((late : Bool) (ms : List Mark) (ql : Locals) → next_q w x ms ≡ Known v [] → regs_in w.to ql ≡ end → AllThere w.to ql → (late ≡ false → is_at_boundary pc ≡ true → ms ≡ []) → Nearing late (at_last ms) ql) →
        Nearing late (at_last ms) ql
    comes_to v end g t (Is e) late ms ql j regs has near further = further late ms ql (sym (first_is ms) ∙ ap (λ (f : Get (Option Value)). f []) (sym j ∙ e)) regs has near
    comes_to v end g t (Steps t' action m e quiet d) late ms ql j regs has near further =
        let asked : next_q w x ms ≡ Waits action = sym (first_is ms) ∙ ap (λ (f : Get (Option Value)). f []) (sym j) ∙ e in
        let of : IsOf w hidden w.q w.to lowered.hides_q (at_last ms) = record { number = refl; func = refl } in
        let moved = quiet_leads w hidden w.q w.to lowered.hides_q (at_last ms) ql of has action m t' (transition_last ms ∙ ap (transition_in w.q (out-Stmt u) (at_last ms)) asked) (subst (λ (r : Regs). IsQuiet w w.to action r m t') (sym regs) quiet) in
        QGoes late (local_state (at_last ms) ql) (local_state pc pl) (local_state (marked_control w.q (at_last ms) m) moved.locals) moved.step
        (subst (λ (c : ControlState). Nearing (late || is_at_boundary (at_last ms)) c moved.locals) (sym (marked_last ms m))
        (comes_to v end (after g m) t' d (late || is_at_boundary (at_last ms)) (ms ++ m ∷ []) moved.locals (ap (λ (f : Get (Option Value)). after f m) j ∙ one_more ms m) moved.regs moved.has (λ l b. absurd (left_it l b)) further))
      where
        starts_there : IsWorkedIn (out-Stmt u) x → begins_at (out-Stmt u) First ≡ true
        starts_there (InDo d) = ap (λ (y : is.Stmt-F Stmt Case). begins_at y First) d
        starts_there (InIf a b d) = ap (λ (y : is.Stmt-F Stmt Case). begins_at y First) d
        starts_there (InSwitch cases d) = ap (λ (y : is.Stmt-F Stmt Case). begins_at y First) d
        starts_there (InReturn d) = ap (λ (y : is.Stmt-F Stmt Case). begins_at y First) d

        left_it : (late || is_at_boundary (at_last ms)) ≡ false → is_at_boundary pc ≡ true → ⊥
        left_it l b =
            let k = either_late late (is_at_boundary (at_last ms)) l in
            let none : is_at_boundary (at_last ms) ≡ true = ap (λ (n : List Mark). is_at_boundary (at_last n)) (near k.0 b) ∙ starts_there works in
            let contrary : true ≡ false = sym none ∙ k.1 in absurd (cc)
