-- A program by other numbers follows the program and answers it, where no event of its runs names a register.
use Rattle.std.proofs.Common.{◌≡◌, ◌∙◌, ◌∷◌, ◌++◌, ◌&&◌, ℕ, ℤ, Bool, List, [], Option, refl, ap, sym, subst}
use Rattle.cc_states.specs.CcControl.declared.phase.Phase.{Phase}
use Rattle.cc_states.specs.CcControl.declared.phase.Phase.TheVariants.{First, Test, Again}
use Rattle.cc_states.specs.CcEval.declared.mark.Mark.{Mark}
use Rattle.cc_program.specs.declared.func.Func.{Func}
use Rattle.cc_program.specs.declared.object.Device.{Device}
use Rattle.cc_program.specs.declared.program.Program.{Program}
use Rattle.cc_program.specs.declared.stmt.Case.{Case}
use Rattle.cc_program.specs.declared.stmt.Stmt.{Stmt, out-Stmt}
use Rattle.cc_program.specs.declared.stmt.Stmt.TheOpen as is
use Rattle.cc_states.proofs.CcSteps.RunLaws.{run-append, Follows-by_simulation, Answers-by_simulation}
use Rattle.cc_states.specs.CcSteps.Rows.{rows_of}
use Rattle.cc_states.specs.CcSteps.Runs.{Arrivals, run, Same, Follows, Answers, IsBoundary, is_empty, begins_at, begins, running_begins}
use Rattle.cc_states.specs.CcSteps.State.{Active, State}
use Rattle.cc_states.specs.CcSteps.Turn.{is_going, start, turn, enters}
use Rattle.cc_states.specs.States.{IsState}
use Rattle.cc_states.proofs.StartLemmas.{start_state}
use Rattle.cc_states.proofs.TurnLemmas.{turn_state}
use Rattle.cc_states.specs.CcSyntax.Sound.{IsTypedProgram}
use Rattle.cc_lower_numbers_follows.specs.Renaming.{Renaming, IsRenamed}
use Rattle.cc_lower_numbers_follows.specs.Shown.{AreShown, ShowsNoRegister}
use Rattle.cc_lower_numbers_follows.proofs.Controls.{list_there, layer_there, out_there}
use Rattle.cc_lower_numbers_follows.proofs.Gets.{marks_renamed}
use Rattle.cc_lower_numbers_follows.proofs.Rows.{rows_same}
use Rattle.cc_lower_numbers_follows.proofs.Starts.{start_same}
use Rattle.cc_lower_numbers_follows.proofs.Steps.{Q, AreStacksSame, IsStateSame}
use Rattle.cc_lower_numbers_follows.proofs.Turns.{turn_same, enters_same}

module _ (local device : ℕ → ℕ) where
  empty_same : (l : List Stmt) → is_empty (list_there local device l) ≡ is_empty l
  empty_same [] = refl
  empty_same (s ∷ l) = refl

  begins_layer : (x : is.Stmt-F Stmt Case) (phase : Phase) → begins_at (layer_there local device x) phase ≡ begins_at x phase
  begins_layer (is.Do e) phase = refl
  begins_layer (is.If e a b) phase = refl
  begins_layer (is.While e a) phase = refl
  begins_layer (is.DoWhile a e) phase = empty_same a
  begins_layer (is.For first test again a) First = refl
  begins_layer (is.For first test again a) Test = refl
  begins_layer (is.For first test again a) Again = refl
  begins_layer (is.Switch e cases) phase = refl
  begins_layer is.Break phase = refl
  begins_layer is.Continue phase = refl
  begins_layer (is.Return e) phase = refl
  begins_layer is.Empty phase = refl
  begins_layer (is.Block a) phase = refl

  begins_same : (l : List Stmt) (phase : Phase) → begins (list_there local device l) phase ≡ begins l phase
  begins_same [] phase = refl
  begins_same (s ∷ l) phase = ap (λ (x : is.Stmt-F Stmt Case). begins_at x phase) (out_there local device s) ∙ begins_layer (out-Stmt s) phase

module _ (r : Renaming) (devices : List Device) (funcs : List Func) (P : Program) (renamed : IsRenamed r devices funcs P) (sound : IsTypedProgram P)
    (shown : ShowsNoRegister P) where
  abbrev New : Program
  New = Q r devices funcs P renamed

  marks_empty : (ms : List Mark) → is_empty (marks_renamed r ms) ≡ is_empty ms
  marks_empty [] = refl
  marks_empty (m ∷ ms) = refl

  running_same : (qs ps : List Active) → AreStacksSame r devices funcs P renamed qs ps → running_begins qs ≡ running_begins ps
  running_same [] [] h = refl
  running_same (a ∷ qs) (b ∷ ps) h =
      ap (λ (x : Active). is_empty x.marks && begins x.here.rest x.here.phase) h.0.1
      ∙ (λ i. marks_empty b.marks i && begins_same (r.local b.func) r.device b.here.rest b.here.phase i)
  running_same [] (b ∷ ps) h = absurd h
  running_same (a ∷ qs) [] h = absurd h

  -- a state of a run
  abbrev IsOfRun : State → Type 0
  IsOfRun t = (inputs : List ℤ) × (arrivals : Arrivals) × (run P (start P inputs) arrivals ≡ t)

  abbrev Related : State → State → Type 0
  Related s t = IsStateSame r devices funcs P renamed s t × IsState P t × IsOfRun t

  shown_there : (t : State) → IsOfRun t → AreShown P t.memory.trace
  shown_there t h = subst (λ (t : State). AreShown P t.memory.trace) h.2 (shown h.0 h.1)

  further : (t : State) → IsOfRun t → (arrival : Option ℕ) → IsOfRun (turn P t arrival)
  further t h arrival = (h.0, h.1 ++ arrival ∷ [], run-append P (start P h.0) h.1 (arrival ∷ []) ∙ ap (λ (t : State). turn P t arrival) h.2)

  same : (s t : State) → Related s t → Same New P s t
  same s t h = record {
    trace = ap (λ (s : State). rows_of New s.memory.trace) h.0.1 ∙ rows_same r devices funcs P renamed t.memory.trace (shown_there t h.2);
    end = ap (λ (s : State). s.end) h.0.1;
  }

  starts : (inputs : List ℤ) → Related (start New inputs) (start P inputs)
  starts inputs = (start_same r devices funcs P renamed sound inputs, start_state P sound inputs, (inputs, [], refl))

  turns : (s t : State) → Related s t → (arrival : Option ℕ) → Related (turn New s arrival) (turn P t arrival)
  turns s t h arrival = (turn_same r devices funcs P renamed sound s t h.1 h.0 arrival, turn_state P sound t h.1 arrival, further t h.2 arrival)

  enters_there : (s t : State) → Related s t → (arrival : Option ℕ) → enters New s arrival ≡ enters P t arrival
  enters_there s t h arrival = ap (λ (s : State). enters New s arrival) h.0.1 ∙ enters_same r devices funcs P renamed sound h.0.0 t arrival h.0.2

  boundary_there : (s t : State) → Related s t → IsBoundary t → IsBoundary s
  boundary_there s t h b =
      ap (λ (s : State). running_begins s.stack && is_going s.end) h.0.1 ∙ ap (λ (x : Bool). x && is_going t.end) (running_same h.0.0 t.stack h.0.2) ∙ b

  pub follows : Follows New P
  follows = Follows-by_simulation New P Related same starts (λ s t h arrival. (arrival ∷ [], turns s t h arrival))

  pub answers : Answers New P
  answers = Answers-by_simulation New P Related same starts
      (λ s t h arrival e. (arrival ∷ [], ((λ k. boundary_there s t h (e (sym (enters_there s t h arrival) ∙ k))), tt), turns s t h arrival))
