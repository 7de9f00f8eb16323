-- A program follows and answers the one that it is by other numbers of static objects.
use Rattle.std.proofs.Common.{◌≡◌, ◌∙◌, ◌∷◌, ◌&&◌, ℕ, ℤ, Bool, List, [], Option, option_map, slice_get, refl, ap, sym}
use Rattle.cc_states.specs.CcControl.declared.phase.Phase.{Phase}
use Rattle.cc_states.specs.CcControl.declared.phase.Phase.TheVariants.{First, Test, Again}
use Rattle.cc_states.specs.CcEval.declared.mark.Mark.{Mark}
use Rattle.cc_program.specs.declared.expr.Expr.{Expr}
use Rattle.cc_program.specs.declared.object.Object.{Object}
use Rattle.cc_program.specs.declared.program.Program.{Program}
use Rattle.cc_program.specs.declared.stmt.Case.{Case}
use Rattle.cc_program.specs.declared.stmt.Stmt.{Stmt, out-Stmt}
use Rattle.cc_program.specs.declared.stmt.Stmt.TheOpen as is
use Rattle.cc_states.proofs.CcSteps.RunLaws.{Follows-by_simulation, Answers-by_simulation}
use Rattle.cc_states.specs.CcSteps.Rows.{rows_of}
use Rattle.cc_states.specs.CcSteps.Runs.{Same, Follows, Answers, IsBoundary, is_empty, begins_at, begins, running_begins}
use Rattle.cc_states.specs.CcSteps.State.{Active, State}
use Rattle.cc_states.specs.CcSteps.Turn.{is_going, start, turn, enters}
use Rattle.cc_rewrite_renamed.specs.Objects.{expr_renamed, object_renamed}
use Rattle.cc_rewrite_renamed.specs.Renaming.{marks_renamed, AreRenamed}
use Rattle.cc_rewrite_orders_follows.proofs.Controls.{list_there, layer_there, out_there}
use Rattle.cc_rewrite_orders_follows.proofs.Events.{rows_same}
use Rattle.cc_rewrite_orders_follows.proofs.Starts.{start_same}
use Rattle.cc_rewrite_orders_follows.proofs.Steps.{Q, stack_renamed, IsStateSame}
use Rattle.cc_rewrite_orders_follows.proofs.Turns.{turn_same, enters_same}

module _ (expr : Expr → Expr) where
  empty_same : (l : List Stmt) → is_empty (list_there expr l) ≡ is_empty l
  empty_same [] = refl
  empty_same (s ∷ l) = refl

  begins_layer : (x : is.Stmt-F Stmt Case) (phase : Phase) → begins_at (layer_there expr x) phase ≡ begins_at x phase
  begins_layer (is.Do e) phase = refl
  begins_layer (is.If e a b) phase = refl
  begins_layer (is.While e a) phase = refl
  begins_layer (is.DoWhile a e) phase = empty_same a
  begins_layer (is.For first test again a) First = refl
  begins_layer (is.For first test again a) Test = refl
  begins_layer (is.For first test again a) Again = refl
  begins_layer (is.Switch e cases) phase = refl
  begins_layer is.Break phase = refl
  begins_layer is.Continue phase = refl
  begins_layer (is.Return e) phase = refl
  begins_layer is.Empty phase = refl
  begins_layer (is.Block a) phase = refl

  begins_same : (l : List Stmt) (phase : Phase) → begins (list_there expr l) phase ≡ begins l phase
  begins_same [] phase = refl
  begins_same (s ∷ l) phase = ap (λ (x : is.Stmt-F Stmt Case). begins_at x phase) (out_there expr s) ∙ begins_layer (out-Stmt s) phase

module _ (r : ℕ → ℕ) (objects : List Object) (P : Program) (renamed : AreRenamed r objects P)
    (there : (i : ℕ) → slice_get objects (r i) ≡ option_map (object_renamed r) (slice_get P.objects i)) where
  abbrev New : Program
  New = Q r objects P renamed

  marks_empty : (ms : List Mark) → is_empty (marks_renamed r ms) ≡ is_empty ms
  marks_empty [] = refl
  marks_empty (m ∷ ms) = refl

  running_same : (ps : List Active) → running_begins (stack_renamed r objects P renamed ps) ≡ running_begins ps
  running_same [] = refl
  running_same (b ∷ ps) = λ i. marks_empty b.marks i && begins_same (expr_renamed r) b.here.rest b.here.phase i

  -- a state of the program, and that state by other numbers
  abbrev Related : State → State → Type 0
  Related s t = IsStateSame r objects P renamed t s

  same : (s t : State) → Related s t → Same P New s t
  same s t h = record {
    trace = sym (ap (λ (t : State). rows_of New t.memory.trace) h.1 ∙ rows_same r objects P renamed there s.memory.trace);
    end = sym (ap (λ (t : State). t.end) h.1);
  }

  starts : (inputs : List ℤ) → Related (start P inputs) (start New inputs)
  starts inputs = start_same r objects P renamed there inputs

  turns : (s t : State) → Related s t → (arrival : Option ℕ) → Related (turn P s arrival) (turn New t arrival)
  turns s t h arrival = turn_same r objects P renamed t s h arrival

  enters_there : (s t : State) → Related s t → (arrival : Option ℕ) → enters New t arrival ≡ enters P s arrival
  enters_there s t h arrival = ap (λ (t : State). enters New t arrival) h.1 ∙ enters_same r objects P renamed h.0 s arrival

  boundary_there : (s t : State) → Related s t → IsBoundary t → IsBoundary s
  boundary_there s t h b = ap (λ (x : Bool). x && is_going s.end) (sym (running_same s.stack)) ∙ ap (λ (t : State). running_begins t.stack && is_going t.end) (sym h.1) ∙ b

  pub follows : Follows P New
  follows = Follows-by_simulation P New Related same starts (λ s t h arrival. (arrival ∷ [], turns s t h arrival))

  pub answers : Answers P New
  answers = Answers-by_simulation P New Related same starts
      (λ s t h arrival e. (arrival ∷ [], ((λ k. boundary_there s t h (e (enters_there s t h arrival ∙ k))), tt), turns s t h arrival))
