-- In a state of a typed program no action reads or writes a local that the source does not have.
use Rattle.std.proofs.Common.{◌≡◌, ℕ, ◌==◌, Bool, true, false, not, List, [], ◌∷◌, Option, Some, None, option_map, slice_get, refl, ap, sym, ◌∙◌, if◌then◌else◌}
use Rattle.std.proofs.lemmas.Bool.{eqb-true, ltb-false}
use Rattle.std.proofs.lemmas.Option.{slice_get_past}
use Rattle.std.specs.Prelude.{nat_lt}
use Rattle.cc_states.specs.CcEval.Context.{local_type}
use Rattle.cc_states.specs.CcEval.declared.action.Action.{Action}
use Rattle.cc_states.specs.CcEval.declared.action.Action.TheVariants.{Read, Write, Choose, Call, Flag, Save}
use Rattle.cc_states.specs.CcEval.Progress.{Progress, Known, Waits, Traps}
use Rattle.cc_program.specs.declared.func.Func.{Func}
use Rattle.cc_program.specs.declared.program.Program.{Program}
use Rattle.cc_program.specs.declared.stmt.Case.{Case}
use Rattle.cc_program.specs.declared.stmt.Stmt.{Stmt, out-Stmt}
use Rattle.cc_program.specs.declared.stmt.Stmt.TheOpen as is
use Rattle.cc_program.specs.declared.value.Cell.{Cell}
use Rattle.cc_program.specs.declared.value.Cell.TheVariants as cell
use Rattle.cc_program.specs.declared.value.Part.{Part}
use Rattle.cc_program.specs.declared.value.Root.TheVariants as root
use Rattle.cc_program.specs.declared.value.Value.{Value}
use Rattle.cc_states.proofs.StateLemmas.{asked, same_opening}
use Rattle.cc_states.specs.Answers.{IsAction}
use Rattle.cc_states.specs.States.{worked_at, expression_of, IsActive, AreActive, IsState}
use Rattle.cc_states.specs.Typed.{cell_type, IsThere}
use Rattle.cc_states.specs.CcSteps.State.{Active, Memory}
use Rattle.cc_states.specs.CcSteps.Step.{is_return, progress_of, worked}
use Rattle.cc_states.specs.CcSyntax.Expressions.{of_one}
use Rattle.cc_states.specs.CcSyntax.Initial.{place_at}
use Rattle.cc_states.specs.CcSyntax.Values.{ValueType, PlaceType, read_from}
use Rattle.cc_meaning_simulations.specs.LocalSimulations.{is_visible, is_cell_visible, is_action_visible}
use Rattle.cc_meaning_simulations.specs.StepSimulations.{going}
use Rattle.cc_meaning_simulations.specs.Transitions.{ControlState, Jumps, Performs, Returns, control_state, transition, transition_at, transition_in}
use Rattle.cc_lower_continues_follows.proofs.Copies.{first, hidden, hidden_in}

module _ (P : Program) where
  -- where an action is asked for, that is of the expression that is worked
  asks_in : (x : is.Stmt-F Stmt Case) (a : ControlState) (r : Progress (Option Value)) (action : Action) → transition_in P x a r ≡ Performs action → r ≡ Waits action
  asks_in x a (Waits b) action h = (let z : Performs b ≡ Performs action = h in cc)
  asks_in x a (Traps ms) action h = absurd (cc)
  asks_in x a (Known None ms) action h = absurd (cc)
  asks_in x a (Known (Some v) ms) action h = by_kind _ (is_return x) h
    where
      by_kind : (c : ControlState) (b : Bool) → (if b then Returns v else Jumps c) ≡ Performs action → Known (Some v) ms ≡ Waits action
      by_kind c true h = absurd (cc)
      by_kind c false h = absurd (cc)

  asks_list : (l : List Stmt) (a : Active) (action : Action) → transition_at P l (control_state a) ≡ Performs action → progress_of P a (worked_at a.here l) ≡ Waits action
  asks_list [] a action h = absurd (cc)
  asks_list (s ∷ rest) a action h = asks_in (out-Stmt s) (control_state a) (progress_of P a (worked (out-Stmt s) a.here.phase)) action h

  pub asks : (a : Active) (action : Action) → transition P (control_state a) ≡ Performs action → progress_of P a (expression_of a) ≡ Waits action
  asks a action h = asks_list a.here.rest a action h

  -- a local that has a type is the source's
  untyped : (g : Option Func) (local : ℕ) → hidden_in g local ≡ true → local_type local g ≡ None
  untyped None local h = absurd (cc)
  untyped (Some f) local h = ap (option_map _) (slice_get_past f.locals local (ltb-false local (first f) (is_off (nat_lt local (first f)) h)))
    where
      is_off : (b : Bool) → not b ≡ true → b ≡ false
      is_off true h = absurd (cc)
      is_off false h = refl

  typed_shows : (number f local : ℕ) (path : List Part) (w : ValueType) → cell_type P (cell.At (root.Auto number f local) path) ≡ Some w → not (hidden P f local) ≡ true
  typed_shows number f local path w h = by_case (hidden P f local) refl
    where
      by_case : (b : Bool) → hidden P f local ≡ b → not (hidden P f local) ≡ true
      by_case false e = ap not e
      by_case true e = (let z : None ≡ Some w = sym (ap (λ (t : Option PlaceType). of_one (of_one t (place_at P.structures path)) read_from) (untyped (slice_get P.funcs f) local e)) ∙ h in absurd (cc))

  module _ (openings : List ℕ) where
    here_shows : (a : Active) (below : List Active) (number f local : ℕ) → IsActive P openings a → slice_get openings number ≡ Some f → not (hidden P f local) ≡ true → is_visible (hidden P) below number local ≡ true → (b : Bool) → (a.number == number) ≡ b →
        (if b then not (hidden P a.func local) else is_visible (hidden P) below number local) ≡ true
    here_shows a below number f local h o k next true e =
        let same : a.func ≡ f = same_opening P openings a.number a.func f h.number (ap (slice_get openings) (eqb-true a.number number e) ∙ o) in
        ap (λ (f : ℕ). not (hidden P f local)) same ∙ k
    here_shows a below number f local h o k next false e = next

    stack_shows : (stack : List Active) → AreActive P openings stack → (number f local : ℕ) → slice_get openings number ≡ Some f → not (hidden P f local) ≡ true → is_visible (hidden P) stack number local ≡ true
    stack_shows [] h number f local o k = refl
    stack_shows (a ∷ below) h number f local o k = here_shows a below number f local h.0 o k (stack_shows below h.1 number f local o k) (a.number == number) refl

    cell_plain : (stack : List Active) → AreActive P openings stack → (c : Cell) (w : ValueType) → cell_type P c ≡ Some w → IsThere openings c → is_cell_visible (hidden P) stack c ≡ true
    cell_plain stack h (cell.Device d) w k o = refl
    cell_plain stack h (cell.At (root.Static i) path) w k o = refl
    cell_plain stack h (cell.At (root.Auto number f local) path) w k o = stack_shows stack h number f local o (typed_shows number f local path w k)

    action_plain : (stack : List Active) → AreActive P openings stack → (x : Action) → IsAction P openings x → is_action_visible (hidden P) stack x ≡ true
    action_plain stack h (Read c manner) k = cell_plain stack h c k.0 k.1 k.2
    action_plain stack h (Write c is_event v) k = cell_plain stack h c k.0 k.1 k.2
    action_plain stack h (Choose b) k = refl
    action_plain stack h (Call callee args) k = refl
    action_plain stack h (Flag on) k = refl
    action_plain stack h Save k = refl

  pub untouched : (m : Memory) (p : Active) (ps : List Active) (n : ℕ) → IsState P (going m (p ∷ ps) n) → (x : Action) → transition P (control_state p) ≡ Performs x → is_action_visible (hidden P) (p ∷ ps) x ≡ true
  untouched m p ps n h x e = action_plain h.0 (p ∷ ps) h.1.stack x (asked P h.0 p h.1.stack.0 x (asks p x e))
