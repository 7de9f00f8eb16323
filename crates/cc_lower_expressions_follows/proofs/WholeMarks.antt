-- In a state of the source the marks that a step leaves are ones of that step, and a function is called with arguments of its types.
use Rattle.std.proofs.Common.{◌≡◌, ℕ, ℤ, Bool, true, false, List, [], ◌∷◌, Option, Some, None, option_map, refl, ap, sym, ◌∙◌, subst, if◌then◌else◌}
use Rattle.std.specs.Prelude.{slice_get}
use Rattle.std.proofs.lemmas.Option.{same_Some}
use Rattle.cc_program.specs.CcNum.declared.int_type.IntType.TheVariants as int
use Rattle.cc_program.specs.CcNum.Integers.{converted}
use Rattle.cc_program.proofs.CcNum.Conversions.{converted-IsValueOf}
use Rattle.cc_program.proofs.CcNum.ResultLaws.{is_value_from}
use Rattle.cc_states.specs.CcControl.Control.{Level}
use Rattle.cc_states.specs.CcEval.declared.action.Action.{Action}
use Rattle.cc_states.specs.CcEval.declared.action.Action.TheVariants.{Read, Write, Choose, Call, Flag, Save}
use Rattle.cc_states.specs.CcEval.declared.action.Manner.{Manner}
use Rattle.cc_states.specs.CcEval.declared.mark.Mark.{Mark}
use Rattle.cc_states.specs.CcEval.declared.mark.Mark.TheVariants.{Gave, Did, Chose}
use Rattle.cc_states.specs.CcEval.Progress.{Progress, Known, Waits, Traps}
use Rattle.cc_program.specs.declared.expr.Expr.{Expr}
use Rattle.cc_program.specs.declared.func.Func.{Func}
use Rattle.cc_program.specs.declared.object.Device.{Device}
use Rattle.cc_program.specs.declared.program.Program.{Program}
use Rattle.cc_program.specs.declared.stmt.Case.{Case}
use Rattle.cc_program.specs.declared.stmt.Stmt.{Stmt, out-Stmt}
use Rattle.cc_program.specs.declared.stmt.Stmt.TheOpen as is
use Rattle.cc_program.specs.declared.types.Sig.{out-Sig}
use Rattle.cc_program.specs.declared.value.Address.TheVariants as address
use Rattle.cc_program.specs.declared.value.Cell.{Cell}
use Rattle.cc_program.specs.declared.value.Cell.TheVariants as cell
use Rattle.cc_program.specs.declared.value.Value.{Value}
use Rattle.cc_program.specs.declared.value.Value.TheVariants.{Int}
use Rattle.cc_states.specs.CcSteps.declared.content.Content.{Content}
use Rattle.cc_states.specs.CcSteps.declared.content.Content.TheVariants.{Gone, Unwritten, Holds}
use Rattle.cc_states.specs.CcSteps.State.{Active, Memory, State}
use Rattle.cc_states.specs.CcSteps.Step.{cell_position, content_at, is_return, progress_of, progress_in, return_mark, worked}
use Rattle.cc_states.specs.CcSyntax.Sound.{IsTypedProgram}
use Rattle.cc_states.specs.CcSyntax.Values.{ValueType, Integer}
use Rattle.cc_states.specs.Answers.{IsAction, IsMarkOf}
use Rattle.cc_states.specs.States.{worked_at, expression_of, AreMarks, context_in, IsActive, IsStateOf, IsState}
use Rattle.cc_states.specs.Typed.{HasType, AreArguments, cell_type}
use Rattle.cc_states.proofs.StateLemmas.{asked}
use Rattle.cc_states.proofs.StepLemmas.{held}
use Rattle.cc_states.proofs.TypedLemmas.{promoted_value}
use Rattle.cc_meaning_simulations.specs.LocalSimulations.{AreFitting, IsResult, answer_mark, content_mark, input_mark}
use Rattle.cc_meaning_simulations.specs.LocalSteps.{local_state_of}
use Rattle.cc_meaning_simulations.specs.StepSimulations.{going}
use Rattle.cc_meaning_simulations.specs.Transitions.{ControlState, Transition, Performs, Jumps, Returns, control_state, transition_at, transition_in, transition}
use Rattle.cc_lower_expressions_follows.specs.WholeFits.{worked_in, FitsThere, OpensWith}
use Rattle.cc_lower_expressions_follows.proofs.WholePrograms.{SameRegisters}
use Rattle.cc_lower_expressions_follows.proofs.WholeStates.{registers_typed, arguments_passed}

abbrev performing : Action → Transition
performing x = Performs x

same_performed : (x y : Action) → performing x ≡ performing y → x ≡ y
same_performed x y e = cc

module _ (P : Program) (a : Active) where
  -- where it performs a step, its full expression waits for that
  pub record AsksFor (x : Action) : Type 0 where
    pub expr : Expr
    pub works : expression_of a ≡ Some expr
    pub waits : progress_of P a (Some expr) ≡ Waits x

  module _ (x : Action) where
    never : {B : Type 0} (b : Bool) (v : Value) (c : ControlState) → (if b then Returns v else Jumps c) ≡ Performs x → B
    never true v c e = absurd (cc)
    never false v c e = absurd (cc)

    by_progress : (y : is.Stmt-F Stmt Case) (c : ControlState) (r : Progress (Option Value)) → transition_in P y c r ≡ Performs x → r ≡ Waits x
    by_progress y c (Waits action) e = ap (λ (z : Action). Waits z) (same_performed action x e)
    by_progress y c (Traps ms) e = absurd (cc)
    by_progress y c (Known None ms) e = absurd (cc)
    by_progress y c (Known (Some v) ms) e = never (is_return y) v _ e

    no_wait : (f : Option Func) → progress_in P a.number a.func a.marks f None ≡ Waits x → ⊥
    no_wait None e = absurd (cc)
    no_wait (Some f) e = absurd (cc)

    by_expression : (o : Option Expr) → expression_of a ≡ o → progress_of P a o ≡ Waits x → AsksFor x
    by_expression None e h = absurd (no_wait _ h)
    by_expression (Some e') e h = record { expr = e'; works = e; waits = h }

    by_list : (l : List Stmt) → a.here.rest ≡ l → transition_at P l (control_state a) ≡ Performs x → AsksFor x
    by_list [] e h = absurd (cc)
    by_list (s ∷ rest) e h = by_expression (worked (out-Stmt s) a.here.phase) (ap (worked_at a.here) e) (by_progress (out-Stmt s) (control_state a) (progress_of P a (worked (out-Stmt s) a.here.phase)) h)

    pub asks_for : transition P (control_state a) ≡ Performs x → AsksFor x
    asks_for h = by_list a.here.rest refl h

    pub asks_it : (y : AsksFor x) → progress_of P a (expression_of a) ≡ Waits x
    asks_it y = ap (progress_of P a) y.works ∙ y.waits

same_worked : (here : Level) (l : List Stmt) → worked_in l here.phase ≡ worked_at here l
same_worked here [] = refl
same_worked here (s ∷ rest) = refl

module _ (P : Program) (sound : IsTypedProgram P) (openings : List ℕ) (s : State) (h : IsStateOf P openings s) where
  -- ---- the mark of a step

  as_mark : (x : Action) (k n : Mark) → Some n ≡ Some k → IsMarkOf P openings x n → IsMarkOf P openings x k
  as_mark x k n e i = subst (IsMarkOf P openings x) (same_Some n k e) i

  content_fits : (at : Cell) (manner : Manner) (w : ValueType) (y : Content) (k : Mark) → cell_type P at ≡ Some w → ((v : Value) → y ≡ Holds v → HasType P openings w v) → content_mark manner y ≡ Some k → IsMarkOf P openings (Read at manner) k
  content_fits at manner w Gone k t i e = absurd (cc)
  content_fits at manner w Unwritten k t i e = by_manner manner.may_be_bad refl e
    where
      by_manner : (b : Bool) → manner.may_be_bad ≡ b → (if b then Some (Gave None) else None) ≡ Some k → IsMarkOf P openings (Read at manner) k
      by_manner true m e = as_mark (Read at manner) k (Gave None) e m
      by_manner false m e = absurd (cc)
  content_fits at manner w (Holds v) k t i e = as_mark (Read at manner) k (Gave (Some v)) e (w, t, i v refl)

  input_fits : (d : ℕ) (manner : Manner) (o : Option Device) (inputs : List ℤ) (k : Mark) → slice_get P.devices d ≡ o → input_mark P o inputs ≡ Some k → IsMarkOf P openings (Read (cell.Device d) manner) k
  input_fits d manner None inputs k i e = absurd (cc)
  input_fits d manner (Some device) [] k i e = absurd (cc)
  input_fits d manner (Some device) (n ∷ inputs) k i e =
      as_mark (Read (cell.Device d) manner) k (Gave (Some (Int (converted n device.int P.target)))) e
      (Integer device.int, ap (option_map (λ (d : Device). Integer d.int)) i, is_value_from device.int P.target (converted n device.int P.target) (converted-IsValueOf n device.int P.target))

  step_fits : (x : Action) → IsAction P openings x → (k : Mark) → answer_mark P s x ≡ Some k → IsMarkOf P openings x k
  step_fits (Read (cell.Device d) manner) i k e = input_fits d manner (slice_get P.devices d) s.memory.inputs k refl e
  step_fits (Read (cell.At object path) manner) i k e =
      content_fits (cell.At object path) manner i.0 (content_at s object (cell_position P object path)) k i.1 (λ v f. held P openings s h object path i.0 v i.1 i.2 f) e
  step_fits (Write at is_event v) i k e = as_mark (Write at is_event v) k Did e refl
  step_fits (Choose b) i k e = as_mark (Choose b) k (Chose b) e refl
  step_fits (Call callee args) i k e = absurd (cc)
  step_fits (Flag on) i k e = as_mark (Flag on) k Did e refl
  step_fits Save i k e = as_mark Save k _ e (Integer int.UChar, refl, promoted_value int.UChar P.target s.memory.flag)

module _ (P : Program) (sound : IsTypedProgram P) (same : SameRegisters P) where
  -- an activation of a state, a step that it waits for, and a mark of that
  pub fits_active : (openings : List ℕ) (a : Active) → IsActive P openings a → (x : Action) → AsksFor P a x → (k : Mark) → IsMarkOf P openings x k → FitsThere P (local_state_of a) k
  fits_active openings a i x asks k mark = record {
    func = i.func;
    function = i.function;
    expr = asks.expr;
    works = same_worked a.here a.here.rest ∙ asks.works;
    action = x;
    waits = ap (λ (f : Option Func). progress_in P a.number a.func a.marks f (Some asks.expr)) (sym i.function) ∙ asks.waits;
    fits = record {
      openings = openings;
      before = record {
        opened = i.number;
        marks = subst (λ (o : Option Expr). AreMarks (context_in P a i.func) openings o a.marks) asks.works i.marks;
        typed = registers_typed P sound openings a.number a.func i.func i.function a.locals i.locals;
      };
      mark = mark;
    };
  }

  -- what the return of a function leaves its caller
  abbrev pub ReturnsFit : Type 0
  ReturnsFit = (openings : List ℕ) (m : Memory) (a b : Active) (rest : List Active) (opened : ℕ) → IsStateOf P openings (going m (a ∷ b ∷ rest) opened) → a.handler ≡ false → (v : Value) → IsResult P a v → (args : List Value) →
      IsMarkOf P openings (Call (address.Func a.func) args) (return_mark P a.func v)

  module _ (returns_fit : ReturnsFit) where
    waiting_caller : (openings : List ℕ) (m : Memory) (a b : Active) (rest : List Active) (opened : ℕ) → IsStateOf P openings (going m (a ∷ b ∷ rest) opened) → a.handler ≡ false → (v : Value) → IsResult P a v → FitsThere P (local_state_of b) (return_mark P a.func v)
    waiting_caller openings m a b rest opened h called v result =
        let waits = h.called.0 called in
        fits_active openings b h.stack.1.0 (Call (address.Func a.func) waits.0) (by_expression P b (Call (address.Func a.func) waits.0) (expression_of b) refl waits.1) (return_mark P a.func v) (returns_fit openings m a b rest opened h called v result waits.0)

    pub state_fits : (m : Memory) (a : Active) (below : List Active) (opened : ℕ) → IsState P (going m (a ∷ below) opened) → AreFitting (FitsThere P) (OpensWith P) P m a below opened
    state_fits m a below opened h = record {
      actions = λ x e k f.
          let asks = asks_for P a x e in
          fits_active h.0 a h.1.stack.0 x asks k (step_fits P sound h.0 (going m (a ∷ below) opened) h.1 x (asked P h.0 a h.1.stack.0 x (asks_it P a x asks)) k f);
      returns = λ b rest e called v result. by_below below e h called v result;
      calls = λ id args e.
          let x = Call (address.Func id) args in
          let i = asked P h.0 a h.1.stack.0 x (asks_it P a x (asks_for P a x e)) in
          arguments_passed P sound same h.0 opened id args h.1.count (λ f there. subst (λ (g : Func). AreArguments P h.0 (out-Sig g.sig).params args) (same_Some i.0 f (sym i.1 ∙ there)) i.2);
    }
      where
        by_below : {b : Active} {rest : List Active} (l : List Active) → l ≡ b ∷ rest → IsState P (going m (a ∷ l) opened) → a.handler ≡ false → (v : Value) → IsResult P a v → FitsThere P (local_state_of b) (return_mark P a.func v)
        by_below {b} {rest} l e k called v result =
            let there : IsState P (going m (a ∷ b ∷ rest) opened) = subst (λ (l : List Active). IsState P (going m (a ∷ l) opened)) e k in
            waiting_caller there.0 m a b rest opened there.1 called v result
