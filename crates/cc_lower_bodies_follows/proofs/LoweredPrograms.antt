-- The lowered program follows a typed source whose loops are `while (1)`, and answers it.
use Rattle.std.proofs.Common.{◌≡◌, ℕ, ℤ, true, List, [], ◌∷◌, length, Option, Some, None, refl, arith}
use Rattle.std.specs.Prelude.{slice_get}
use Rattle.cc_states.specs.CcEval.declared.action.Action.{Action}
use Rattle.cc_program.specs.declared.expr.Expr.{Expr}
use Rattle.cc_program.specs.declared.func.Func.{Func}
use Rattle.cc_program.specs.declared.program.Program.{Program}
use Rattle.cc_program.specs.declared.stmt.Stmt.{Stmt, out-Stmt}
use Rattle.cc_program.proofs.Each.{Each}
use Rattle.cc_states.specs.States.{IsState}
use Rattle.cc_states.specs.CcSteps.Rows.{rows_of}
use Rattle.cc_states.specs.CcSteps.Runs.{Follows, Answers}
use Rattle.cc_states.specs.CcSteps.State.{Active, Memory, State}
use Rattle.cc_states.specs.CcSteps.Turn.{start, turn}
use Rattle.cc_states.specs.CcSyntax.Sound.{IsTypedProgram, is_main_there}
use Rattle.cc_lower_continues_follows.proofs.Rows.{rows_kept}
use Rattle.cc_lower_expressions.specs.Programs.{made_of, temporaries, lowered_body, lower_expressions_program}
use Rattle.cc_lower_sound.specs.Statements.{has_plain_statements}
use Rattle.cc_meaning_simulations.specs.LocalSimulations.{is_action_visible}
use Rattle.cc_meaning_simulations.specs.LocalSteps.{LocalState, local_state_of}
use Rattle.cc_meaning_simulations.specs.StepSimulations.{going}
use Rattle.cc_meaning_simulations.specs.Transitions.{Performs, control_state, transition}
use Rattle.cc_lower_expressions_follows.specs.Relation.{Declared}
use Rattle.cc_lower_expressions_follows.specs.Trees.{context_p}
use Rattle.cc_lower_expressions_follows.specs.WholeFits.{setting_of, hides}
use Rattle.cc_lower_expressions_follows.specs.WholeLists.{IsLoweredRight, IsNormal}
use Rattle.cc_lower_expressions_follows.proofs.WholeAsks.{one_known}
use Rattle.cc_lower_expressions_follows.proofs.WholeConditions as conditions
use Rattle.cc_lower_expressions_follows.proofs.WholeMarks.{state_fits}
use Rattle.cc_lower_expressions_follows.proofs.WholePrograms as programs
use Rattle.cc_lower_expressions_follows.proofs.WholePrograms.{SameRegisters, Guarded, Matches, matches_in, is_lowered}
use Rattle.cc_lower_expressions_follows.proofs.WholeRight.{lowered_here}
use Rattle.cc_lower_expressions_follows.proofs.WholeStates.{running_typed, states_kept, states_begin, nothing_passed}
use Rattle.cc_lower_expressions_follows.proofs.WholeVisible.{step_visible}
use Rattle.cc_lower_bodies_follows.specs.Lowerable.{IsLowerable, IsLowerableIn}
use Rattle.cc_lower_bodies_follows.proofs.AlikePrograms.{alike_programs, register_below}
use Rattle.cc_lower_bodies_follows.proofs.DeclaredTemporaries.{temporaries_declared}
use Rattle.cc_lower_bodies_follows.proofs.LowerableStatements.{lowerable_normal, condition_lowerable, body_lowerable}
use Rattle.cc_lower_bodies_follows.proofs.ReturnMarks.{returns_fit}
use Rattle.cc_lower_bodies_follows.proofs.SameRegisters.{same_registers}

main_in : (o : Option Func) → is_main_there o ≡ true → (f : Func) × (o ≡ Some f)
main_in None h = absurd (cc)
main_in (Some f) h = (f, refl)

module _ (P : Program) (sound : IsTypedProgram P) (plain : has_plain_statements P ≡ true) where
  abbrev Q : Program
  Q = lower_expressions_program P

  abbrev pub same : SameRegisters P
  same = same_registers P sound plain

  abbrev pub Good : ℕ → ℕ → Func → Stmt → Type 0
  Good number id f s = IsLowerableIn P f s

  -- expressions of a function are lowered right
  pub right : (number id : ℕ) (f : Func) → slice_get P.funcs id ≡ Some f → (e : Expr) → IsLowerable (setting_of P number id f) e → IsLoweredRight (setting_of P number id f) e
  right number id f there e h =
      lowered_here (setting_of P number id f) (alike_programs P same number id f there) (register_below f) (omega arith) there e h.own h.old h.typed

  pub normal : (number id : ℕ) (f : Func) → slice_get P.funcs id ≡ Some f → (s : Stmt) → Good number id f s → IsNormal (setting_of P number id f) (Good number id f) (out-Stmt s)
  normal number id f there s h = lowerable_normal P f number id (right number id f there) s h

  pub good_bodies : (number id : ℕ) (f : Func) → slice_get P.funcs id ≡ Some f → Each (Good number id f) f.body
  good_bodies number id f there = body_lowerable P sound plain id f there

  pub declared : (number id : ℕ) (f : Func) → slice_get P.funcs id ≡ Some f → Declared (setting_of P number id f) (length f.locals) (made_of P f).temps
  declared = temporaries_declared P sound plain

  -- states of the source, of whose events none names a temporary
  abbrev Inv : State → Type 0
  Inv t = IsState P t × (rows_of Q t.memory.trace ≡ rows_of P t.memory.trace)

  kept : (t : State) → Inv t → (arrival : Option ℕ) → Inv (turn P t arrival)
  kept t h arrival = (states_kept P sound t h.0 arrival, rows_kept (temporaries P) (lowered_body P) P t h.0 h.1 arrival)

  begun : (inputs : List ℤ) → Inv (start P inputs)
  begun inputs = (states_begin P sound inputs, refl)

  abbrev main : (f : Func) × (slice_get P.funcs P.main ≡ Some f)
  main = main_in (slice_get P.funcs P.main) sound.main

  -- an `if` without `else`
  guarded : (number id : ℕ) (f : Func) (there : slice_get P.funcs id ≡ Some f) → Guarded P same Good normal good_bodies declared number id f there
  guarded number id f there =
      conditions.guarded (setting_of P number id f) (hides P) (is_lowered P same number id f there) (Good number id f) (Matches P same Good normal good_bodies declared) (matches_in P same Good normal good_bodies declared number id f there) (normal number id f there)
      (alike_programs P same number id f there) (register_below f) (omega arith) (λ s e arm h d. let c = condition_lowerable P f number id s e arm [] h d in record { own = c.own; old = c.old; typed = c.typed })

  visible : (m : Memory) (b : Active) (below : List Active) (opened : ℕ) → Inv (going m (b ∷ below) opened) → (a : LocalState) → Matches P same Good normal good_bodies declared a (local_state_of b) → (x : Action) →
      transition P (control_state b) ≡ Performs x → is_action_visible (hides P) (b ∷ below) x ≡ true
  visible m b below opened h a met x e =
      step_visible P met.0 met.1 met.2 met.3 (is_lowered P same met.0 met.1 met.2 met.3) (Good met.0 met.1 met.2) (λ y one. one_known (context_p (setting_of P met.0 met.1 met.2)) y one) m b below opened h.0 a met.4 x e

  pub follows : Follows Q P
  follows =
      programs.follows P same Good normal good_bodies declared guarded Inv (λ m b below opened h. running_typed P sound m b below opened h.0) (λ t h. h.1) kept begun visible
      (λ m b below opened h. state_fits P sound same (returns_fit P sound same) m b below opened h.0) (nothing_passed P sound same) main.0 main.1

  pub answers : Answers Q P
  answers =
      programs.answers P same Good normal good_bodies declared guarded Inv (λ m b below opened h. running_typed P sound m b below opened h.0) (λ t h. h.1) kept begun visible
      (λ m b below opened h. state_fits P sound same (returns_fit P sound same) m b below opened h.0) (nothing_passed P sound same) main.0 main.1
