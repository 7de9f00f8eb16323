-- The lowered program follows a typed source and answers it: what states say of their registers, marks and arguments is shown of typed programs.
use Rattle.std.proofs.Common.{◌≡◌, ℕ, true, List, ◌∷◌, length, Option, Some, None, refl}
use Rattle.std.specs.Prelude.{slice_get}
use Rattle.cc_states.specs.CcEval.declared.action.Action.{Action}
use Rattle.cc_program.specs.declared.func.Func.{Func}
use Rattle.cc_program.specs.declared.program.Program.{Program}
use Rattle.cc_program.specs.declared.stmt.Stmt.{Stmt, out-Stmt}
use Rattle.cc_program.proofs.Each.{Each}
use Rattle.cc_states.specs.States.{IsState}
use Rattle.cc_states.specs.CcSteps.Rows.{rows_of}
use Rattle.cc_states.specs.CcSteps.Runs.{Follows, Answers}
use Rattle.cc_states.specs.CcSteps.State.{Active, Memory, State}
use Rattle.cc_states.specs.CcSyntax.Sound.{IsTypedProgram, is_main_there}
use Rattle.cc_meaning_simulations.specs.LocalSimulations.{is_action_visible}
use Rattle.cc_meaning_simulations.specs.LocalSteps.{LocalState, local_state_of}
use Rattle.cc_meaning_simulations.specs.StepSimulations.{going}
use Rattle.cc_meaning_simulations.specs.Transitions.{Performs, control_state, transition}
use Rattle.cc_lower_expressions.specs.Programs.{made_of, lower_expressions_program}
use Rattle.cc_lower_expressions_follows.specs.Trees.{context_p}
use Rattle.cc_lower_expressions_follows.specs.Relation.{Declared}
use Rattle.cc_lower_expressions_follows.specs.WholeFits.{setting_of, hides}
use Rattle.cc_lower_expressions_follows.specs.WholeLists.{IsNormal}
use Rattle.cc_lower_expressions_follows.proofs.WholeAsks.{one_known}
use Rattle.cc_lower_expressions_follows.proofs.WholeMarks.{ReturnsFit, state_fits}
use Rattle.cc_lower_expressions_follows.proofs.WholePrograms as programs
use Rattle.cc_lower_expressions_follows.proofs.WholePrograms.{SameRegisters, Guarded, Matches, is_lowered}
use Rattle.cc_lower_expressions_follows.proofs.WholeStates.{running_typed, states_kept, states_begin, nothing_passed}
use Rattle.cc_lower_expressions_follows.proofs.WholeVisible.{step_visible}

main_in : (o : Option Func) → is_main_there o ≡ true → (f : Func) × (o ≡ Some f)
main_in None h = absurd (cc)
main_in (Some f) h = (f, refl)

module _ (P : Program) (sound : IsTypedProgram P) (same : SameRegisters P) (returns_fit : ReturnsFit P sound same)
    -- statements whose loops are `while (1)`, and whose full expressions are lowered right
    (Good : ℕ → ℕ → Func → Stmt → Type 0)
    (normal : (number id : ℕ) (f : Func) → slice_get P.funcs id ≡ Some f → (s : Stmt) → Good number id f s → IsNormal (setting_of P number id f) (Good number id f) (out-Stmt s))
    (good_bodies : (number id : ℕ) (f : Func) → slice_get P.funcs id ≡ Some f → Each (Good number id f) f.body)
    (declared : (number id : ℕ) (f : Func) → slice_get P.funcs id ≡ Some f → Declared (setting_of P number id f) (length f.locals) (made_of P f).temps)
    (guarded : (number id : ℕ) (f : Func) (there : slice_get P.funcs id ≡ Some f) → Guarded P same Good normal good_bodies declared number id f there)
    (spelled : (t : State) → IsState P t → rows_of (lower_expressions_program P) t.memory.trace ≡ rows_of P t.memory.trace) where
  visible : (m : Memory) (b : Active) (below : List Active) (opened : ℕ) → IsState P (going m (b ∷ below) opened) → (a : LocalState) → Matches P same Good normal good_bodies declared a (local_state_of b) → (x : Action) →
      transition P (control_state b) ≡ Performs x → is_action_visible (hides P) (b ∷ below) x ≡ true
  visible m b below opened h a met x e =
      step_visible P met.0 met.1 met.2 met.3 (is_lowered P same met.0 met.1 met.2 met.3) (Good met.0 met.1 met.2) (λ y one. one_known (context_p (setting_of P met.0 met.1 met.2)) y one) m b below opened h a met.4 x e

  abbrev main : (f : Func) × (slice_get P.funcs P.main ≡ Some f)
  main = main_in (slice_get P.funcs P.main) sound.main

  pub follows : Follows (lower_expressions_program P) P
  follows =
      programs.follows P same Good normal good_bodies declared guarded (IsState P) (running_typed P sound) spelled (states_kept P sound) (states_begin P sound) visible (state_fits P sound same returns_fit)
      (nothing_passed P sound same) main.0 main.1

  pub answers : Answers (lower_expressions_program P) P
  answers =
      programs.answers P same Good normal good_bodies declared guarded (IsState P) (running_typed P sound) spelled (states_kept P sound) (states_begin P sound) visible (state_fits P sound same returns_fit)
      (nothing_passed P sound same) main.0 main.1
