-- Programs whose functions have other bodies, and more locals besides: local states that converge, where neither traps and marks are any.
use Rattle.std.specs.Prelude.{nat_lt}
use Rattle.std.proofs.Common.{◌≡◌, ◌∷◌, ◌⊎◌, ℕ, ℤ, Bool, true, false, List, [], length, Option, Some, slice_get}
use Rattle.cc_steps.specs.CcEval.declared.action.Action.{Action}
use Rattle.cc_program.specs.declared.func.Func.{Func}
use Rattle.cc_steps.specs.CcSyntax.Types.{Named}
use Rattle.cc_program.specs.declared.program.Program.{Program}
use Rattle.cc_program.specs.declared.stmt.Stmt.{Stmt}
use Rattle.cc_program.specs.declared.value.Value.{Value}
use Rattle.cc_steps.specs.Rows.{rows_of}
use Rattle.cc_steps.specs.Runs.{Follows, Answers}
use Rattle.cc_steps.specs.State.{Active, Memory, State}
use Rattle.cc_steps.specs.Turn.{start, turn}
use Rattle.cc_meaning_simulations.specs.Bodies.{AddsScalars, all_extended, extended}
use Rattle.cc_meaning_simulations.specs.LocalSimulations.{AreAlike, Approaches, Arrives, Awaits, Converges, Expects, Matched, PGoes, PSteps, QGoes, QSteps, is_action_visible}
use Rattle.cc_meaning_simulations.specs.LocalSteps.{LocalState, after_write, begun_state, local_state_of}
use Rattle.cc_meaning_simulations.specs.StepSimulations.{going}
use Rattle.cc_meaning_simulations.specs.Transitions.{Aborts, FallsOff, Jumps, Performs, Returns, Transition, control_state, is_at_boundary, transition}
use Rattle.cc_meaning_simulations.proofs.Actions.{any_arguments, any_fitting, any_mark}
use Rattle.cc_meaning_simulations.proofs.Approaching as approaching

module _ (more : Func → List Named) (new : Func → List Stmt) (P : Program) (scalars : AddsScalars more) (hidden : ℕ → ℕ → Bool) (Inv : State → Type 0) (Match : LocalState → LocalState → Type 0) where
  abbrev pub Q : Program
  Q = all_extended more new P

  abbrev Meets : LocalState → LocalState → Type 0
  Meets q p = Converges hidden Q P Match q p

  abbrev Waits : LocalState → LocalState → Type 0
  Waits q p = Awaits hidden Q P Match q p

  abbrev Near : LocalState → LocalState → Type 0
  Near q p = Approaches hidden Q P Match false q p

  module _ (shown : (id : ℕ) (f : Func) → slice_get P.funcs id ≡ Some f → (local : ℕ) → hidden id local ≡ false → (nat_lt local (length f.locals) ≡ true) ⊎ (more f ≡ []))
      (match_after_write : (q p : LocalState) → Match q p → q.control.func ≡ p.control.func → (local i : ℕ) (v : Value) → hidden p.control.func local ≡ false → Match (after_write q local i v) (after_write p local i v))
      (begins : (number id : ℕ) (args : List Value) (f : Func) → slice_get P.funcs id ≡ Some f → Meets (begun_state Q number id args (extended more new f)) (begun_state P number id args f))
      (alike : (m : Memory) (p : Active) (ps : List Active) (o : ℕ) → Inv (going m (p ∷ ps) o) → (q : LocalState) → Match q (local_state_of p) → AreAlike hidden Meets Waits q (local_state_of p) (transition Q q.control) (transition P (control_state p)))
      (boundary : (q p : LocalState) → Match q p → is_at_boundary p.control ≡ true → is_at_boundary q.control ≡ true)
      (spelled : (t : State) → Inv t → rows_of Q t.memory.trace ≡ rows_of P t.memory.trace)
      (kept : (t : State) → Inv t → (arrival : Option ℕ) → Inv (turn P t arrival))
      (begun : (inputs : List ℤ) → Inv (start P inputs))
      (plain : (m : Memory) (p : Active) (ps : List Active) (o : ℕ) → Inv (going m (p ∷ ps) o) → (q : LocalState) → Match q (local_state_of p) → (x : Action) → transition P (control_state p) ≡ Performs x → is_action_visible hidden (p ∷ ps) x ≡ true)
      (main : Func) (there : slice_get P.funcs P.main ≡ Some main) where
    approaches : (late : Bool) (q p : LocalState) → Meets q p → Approaches hidden Q P Match late q p
    approaches late _ _ (Matched q p x) = Arrives late q p x (λ e b. boundary q p x b)
    approaches late _ _ (QSteps q p q' x j) = QGoes late q p q' x (approaches _ q' p j)
    approaches late _ _ (PSteps q p p' x f j) = PGoes late q p p' x (λ e b. f b) (approaches false q p' j)

    alike_near : (q p : LocalState) (d e : Transition) → AreAlike hidden Meets Waits q p d e → AreAlike hidden Near (Expects hidden Q P Match any_mark) q p d e
    alike_near q p FallsOff FallsOff a = tt
    alike_near q p (Performs x) (Performs y) a = (a.0, λ m fit. approaches false _ _ (a.1 m))
    alike_near q p Aborts Aborts a = tt
    alike_near q p (Jumps c) (Jumps d) a = approaches false _ _ a
    alike_near q p (Returns v) (Returns w) a = a
    alike_near q p _ _ a = absurd a

    begins_near : (number id : ℕ) (args : List Value) (f : Func) → slice_get P.funcs id ≡ Some f → any_arguments number id args → Near (begun_state Q number id args (extended more new f)) (begun_state P number id args f)
    begins_near number id args f e opens = approaches false _ _ (begins number id args f e)

    alike_there : (m : Memory) (p : Active) (ps : List Active) (o : ℕ) → Inv (going m (p ∷ ps) o) → (q : LocalState) → Match q (local_state_of p) → AreAlike hidden Near (Expects hidden Q P Match any_mark) q (local_state_of p) (transition Q q.control) (transition P (control_state p))
    alike_there m p ps o inv q h = alike_near q (local_state_of p) (transition Q q.control) (transition P (control_state p)) (alike m p ps o inv q h)

    pub follows : Follows Q P
    follows = approaching.follows more new P scalars hidden Inv Match any_mark any_arguments shown match_after_write (λ p m local i v h fit. tt) (λ p m local i v h fit. tt) begins_near alike_there spelled kept begun plain (λ m p ps o inv. any_fitting P m p ps o) (λ number id. tt) main there

    pub answers : Answers Q P
    answers = approaching.answers more new P scalars hidden Inv Match any_mark any_arguments shown match_after_write (λ p m local i v h fit. tt) (λ p m local i v h fit. tt) begins_near alike_there spelled kept begun plain (λ m p ps o inv. any_fitting P m p ps o) (λ number id. tt) main there
