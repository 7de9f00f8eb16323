-- No event of a run of a typed program names a register, turn by turn.
use Rattle.std.proofs.Common.{◌≡◌, ◌∙◌, ◌∷◌, ◌++◌, ◌||◌, ◌==◌, ℕ, ℤ, Bool, true, false, List, [], Option, Some, None, option_map, slice_get, refl, ap, sym, subst, if◌then◌else◌}
use Rattle.std.proofs.lemmas.Option.{same_Some}
use Rattle.cc_states.specs.CcCells.Cells.{with_scalar}
use Rattle.cc_states.specs.CcEval.declared.action.Action.{Action}
use Rattle.cc_states.specs.CcEval.declared.action.Action.TheVariants.{Read, Write, Choose, Call, Flag, Save}
use Rattle.cc_states.specs.CcEval.declared.action.Manner.{Manner}
use Rattle.cc_states.specs.CcEval.Eval.{next_of}
use Rattle.cc_states.specs.CcEval.Progress.{Progress, Known, Waits, Traps, no_value}
use Rattle.cc_program.specs.declared.expr.Expr.{Expr}
use Rattle.cc_program.specs.declared.func.Func.{Func}
use Rattle.cc_program.specs.declared.object.Device.{Device}
use Rattle.cc_program.specs.declared.program.Program.{Program}
use Rattle.cc_program.specs.declared.stmt.Case.{Case}
use Rattle.cc_program.specs.declared.stmt.Stmt.{Stmt, out-Stmt}
use Rattle.cc_program.specs.declared.stmt.Stmt.TheOpen as is
use Rattle.cc_program.specs.declared.types.CType.{CType}
use Rattle.cc_program.specs.declared.types.Shape.{Shape, out-Shape}
use Rattle.cc_program.specs.declared.types.Shape.TheOpen as shape
use Rattle.cc_program.specs.declared.types.Sig.{Sig}
use Rattle.cc_program.specs.declared.value.Address.{Address}
use Rattle.cc_program.specs.declared.value.Address.TheVariants as address
use Rattle.cc_program.specs.declared.value.Cell.{Cell}
use Rattle.cc_program.specs.declared.value.Cell.TheVariants as cell
use Rattle.cc_program.specs.declared.value.Root.{Root}
use Rattle.cc_program.specs.declared.value.Root.TheVariants as root
use Rattle.cc_program.specs.declared.value.Value.{Value}
use Rattle.cc_program.specs.declared.value.Value.TheVariants.{Int, Place}
use Rattle.cc_states.specs.CcSteps.declared.content.Content.{Content}
use Rattle.cc_states.specs.CcSteps.declared.content.Content.TheVariants.{Gone, Unwritten, Holds}
use Rattle.cc_states.specs.CcSteps.declared.event.Event.{Event}
use Rattle.cc_states.specs.CcSteps.declared.event.Event.TheVariants as event
use Rattle.cc_states.specs.CcSteps.Access.{is_open, with_local}
use Rattle.cc_states.specs.CcSteps.Runs.{Arrivals, run}
use Rattle.cc_states.specs.CcSteps.State.{Active, State}
use Rattle.cc_states.specs.CcSteps.Step.{with_stack, with_statics, with_event, content_at, written, gives_nothing, is_return, worked, progress_in, progress_of, cell_position, has_read, input_read, has_written, opened_if, call, returned, fallen, perform, done, stepped, active_step, proceed}
use Rattle.cc_states.specs.CcSteps.Turn.{is_going, start, entering, turn_by, turn}
use Rattle.cc_states.specs.CcSyntax.Effects.{no_one}
use Rattle.cc_states.specs.CcSyntax.Expressions.{of_one}
use Rattle.cc_states.specs.CcSyntax.Sound.{IsTypedProgram}
use Rattle.cc_states.specs.CcSyntax.Values.{ValueType, NoValue, Integer, ToObject, ToFunction, PlaceType, DevicePlace, ObjectPlace, FunctionPlace, pointer_shape, scalar_shape, read_from}
use Rattle.cc_states.specs.Answers.{IsAction, IsMarkOf}
use Rattle.cc_states.specs.States.{worked_at, expression_of, AreMarks, context_in, IsActive, AreActive, IsState, IsStateOf}
use Rattle.cc_states.specs.Typed.{HasType, cell_type, IsAddress}
use Rattle.cc_states.proofs.AddressLemmas.{expression_takes}
use Rattle.cc_states.proofs.StartLemmas.{start_state}
use Rattle.cc_states.proofs.StateLemmas.{asked}
use Rattle.cc_states.proofs.StepLemmas.{held}
use Rattle.cc_states.proofs.TurnLemmas.{turn_state}
use Rattle.cc_states.proofs.CcEval.Works.{answers_of}
use Rattle.cc_lower_numbers_follows.specs.Shown.{IsAddressShown, IsValueShown, IsShown, AreShown, ShowsNoRegister}
use Rattle.cc_lower_numbers_follows.proofs.Events.{meaning_fine}
use Rattle.cc_lower_numbers_follows.proofs.Seen.{IsSeenFit}

-- ---- the type of what a cell holds is no void

abbrev IsNoVoid : ValueType → Type 0
IsNoVoid NoValue = ⊥
IsNoVoid (Integer t) = Unit {0}
IsNoVoid (ToObject constant volatile t) = Unit {0}
IsNoVoid (ToFunction sig) = Unit {0}

pointer_no_void : (t : CType) (x : shape.Shape-F Shape CType Sig) → IsNoVoid (pointer_shape t x)
pointer_no_void t shape.Void = tt
pointer_no_void t (shape.Int i) = tt
pointer_no_void t (shape.Pointer to) = tt
pointer_no_void t (shape.Array of n) = tt
pointer_no_void t (shape.Struct s) = tt
pointer_no_void t (shape.Func sig) = tt

scalar_no_void : (x : shape.Shape-F Shape CType Sig) (w : ValueType) → scalar_shape x ≡ Some w → IsNoVoid w
scalar_no_void shape.Void w e = absurd (cc)
scalar_no_void (shape.Int i) w e = subst IsNoVoid (same_Some (Integer i) w e) tt
scalar_no_void (shape.Pointer to) w e = subst IsNoVoid (same_Some (pointer_shape to (out-Shape to.shape)) w e) (pointer_no_void to (out-Shape to.shape))
scalar_no_void (shape.Array of n) w e = absurd (cc)
scalar_no_void (shape.Struct s) w e = absurd (cc)
scalar_no_void (shape.Func sig) w e = absurd (cc)

read_no_void : (u : Option PlaceType) (w : ValueType) → of_one u read_from ≡ Some w → IsNoVoid w
read_no_void None w e = absurd (cc)
read_no_void (Some (DevicePlace constant t)) w e = subst IsNoVoid (same_Some (Integer t) w e) tt
read_no_void (Some (ObjectPlace constant volatile t)) w e = scalar_no_void (out-Shape t.shape) w e
read_no_void (Some (FunctionPlace sig)) w e = absurd (cc)

device_no_void : (d : Option Device) (w : ValueType) → option_map (λ d. Integer d.int) d ≡ Some w → IsNoVoid w
device_no_void None w e = absurd (cc)
device_no_void (Some d) w e = subst IsNoVoid (same_Some (Integer d.int) w e) tt

module _ (P : Program) where
  cell_no_void : (at : Cell) (w : ValueType) → cell_type P at ≡ Some w → IsNoVoid w
  cell_no_void (cell.Device d) w e = device_no_void (slice_get P.devices d) w e
  cell_no_void (cell.At o path) w e = read_no_void _ w e

  address_shown : (openings : List ℕ) (to : ValueType) (a : Address) → IsAddress P openings to a → IsAddressShown P a
  address_shown openings to address.Null h = tt
  address_shown openings to (address.Func f) h = tt
  address_shown openings to (address.At object path index count) h = h.2

  typed_shown : (openings : List ℕ) (w : ValueType) (v : Value) → IsNoVoid w → HasType P openings w v → IsValueShown P v
  typed_shown openings NoValue v n h = absurd n
  typed_shown openings (Integer t) (Int k) n h = tt
  typed_shown openings (Integer t) (Place a) n h = absurd h
  typed_shown openings (ToObject constant volatile t) (Int k) n h = absurd h
  typed_shown openings (ToObject constant volatile t) (Place a) n h = address_shown openings (ToObject constant volatile t) a h
  typed_shown openings (ToFunction sig) (Int k) n h = absurd h
  typed_shown openings (ToFunction sig) (Place a) n h = address_shown openings (ToFunction sig) a h

  -- ---- what is seen

  seen_by : (openings : List ℕ) (a : Active) (h : IsActive P openings a) (action : Action) (x : Option Expr) → expression_of a ≡ x → AreMarks (context_in P a h.func) openings x a.marks →
      progress_in P a.number a.func a.marks (Some h.func) x ≡ Waits action → IsSeenFit P openings action
  seen_by openings a h action None e m w = absurd (cc)
  seen_by openings a h action (Some e') e m w =
      (meaning_fine (context_in P a h.func) openings (record { function = h.function; number = h.number }) e' (expression_takes h.func a e' h.inside e) no_one).seen a.marks action (answers_of (IsMarkOf P openings) (next_of (context_in P a h.func) e') a.marks m) w

  seen : (openings : List ℕ) (a : Active) → IsActive P openings a → (action : Action) → progress_of P a (expression_of a) ≡ Waits action → IsSeenFit P openings action
  seen openings a h action w = seen_by openings a h action (expression_of a) refl h.marks (ap (λ (f : Option Func). progress_in P a.number a.func a.marks f (expression_of a)) (sym h.function) ∙ w)

  -- ---- traces

  abbrev Shows : State → Type 0
  Shows s = AreShown P s.memory.trace

  one_more : (trace : List Event) (e : Event) → AreShown P trace → IsShown P e → AreShown P (trace ++ e ∷ [])
  one_more [] e h k = (k, tt)
  one_more (x ∷ trace) e h k = (h.0, one_more trace e h.1 k)

  event_shown : (b : Bool) (s : State) (e : Event) → Shows s → (b ≡ true → IsShown P e) → Shows (with_event b s e)
  event_shown true s e h k = one_more s.memory.trace e h (k refl)
  event_shown false s e h k = h

  either : (b : Bool) (s t : State) → Shows s → Shows t → Shows (if b then s else t)
  either true s t h k = h
  either false s t h k = k

  has_read_shown : (s : State) (at : Cell) (manner : Manner) (c : Content) → Shows s → ((v : Value) → c ≡ Holds v → manner.is_event ≡ true → IsShown P (event.Read at v)) → Shows (has_read P s at manner c)
  has_read_shown s at manner Gone h k = h
  has_read_shown s at manner Unwritten h k = either manner.may_be_bad _ _ h h
  has_read_shown s at manner (Holds v) h k = event_shown manner.is_event s (event.Read at v) h (k v refl)

  input_shown : (s : State) (d : ℕ) (device : Option Device) (inputs : List ℤ) → Shows s → Shows (input_read P s d device inputs)
  input_shown s d None inputs h = h
  input_shown s d (Some device) [] h = h
  input_shown s d (Some device) (n ∷ inputs) h = one_more s.memory.trace _ h (tt, tt)

  has_written_shown : (at : Cell) (b : Bool) (v : Value) (s : State) (t : Option State) → Shows s → ((u : State) → t ≡ Some u → Shows u) → (b ≡ true → IsShown P (event.Write at v)) → Shows (has_written P at b v s t)
  has_written_shown at b v s None h l k = h
  has_written_shown at b v s (Some t) h l k = event_shown b t (event.Write at v) (l t refl) k

  written_shown : (s : State) (o : Root) (k : ℕ) (v : Value) (u : State) → written s o k v ≡ Some u → Shows s → Shows u
  written_shown s (root.Static i) k v u e h = subst Shows (same_Some (with_statics s (with_scalar s.memory.statics i k v)) u e) h
  written_shown s (root.Auto number func local) k v u e h = by (is_open s.stack number) e
    where
      by : (b : Bool) → (if b then Some (with_stack s (with_local s.stack number local k v)) else None) ≡ Some u → Shows u
      by true e = subst Shows (same_Some (with_stack s (with_local s.stack number local k v)) u e) h
      by false e = absurd (cc)

  opened_shown : (s : State) (id : ℕ) (args : List Value) (f : Option Func) → Shows s → Shows (opened_if P s id args f)
  opened_shown s id args None h = h
  opened_shown s id args (Some f) h = h

  call_shown : (s : State) (callee : Address) (args : List Value) → Shows s → Shows (call P s callee args)
  call_shown s address.Null args h = h
  call_shown s (address.Func id) args h = opened_shown s id args (slice_get P.funcs id) h
  call_shown s (address.At object path index count) args h = h

  module _ (openings : List ℕ) (s : State) (h : IsStateOf P openings s) where
    perform_shown : (action : Action) → IsAction P openings action → IsSeenFit P openings action → Shows s → Shows (perform P s action)
    perform_shown (Read (cell.Device d) manner) i k t = input_shown s d (slice_get P.devices d) s.memory.inputs t
    perform_shown (Read (cell.At o path) manner) i k t =
        has_read_shown s (cell.At o path) manner (content_at s o (cell_position P o path)) t
        (λ v e b. (k b, typed_shown openings i.0 v (cell_no_void (cell.At o path) i.0 i.1) (held P openings s h o path i.0 v i.1 i.2 e)))
    perform_shown (Write (cell.Device d) is_event v) i k t = one_more s.memory.trace (event.Write (cell.Device d) v) t (tt, typed_shown openings i.0 v (cell_no_void (cell.Device d) i.0 i.1) i.3)
    perform_shown (Write (cell.At o path) is_event v) i k t =
        has_written_shown (cell.At o path) is_event v s (written s o (cell_position P o path) v) t (λ u e. written_shown s o (cell_position P o path) v u e t)
        (λ b. (k b, typed_shown openings i.0 v (cell_no_void (cell.At o path) i.0 i.1) i.3))
    perform_shown (Choose b) i k t = t
    perform_shown (Call callee args) i k t = call_shown s callee args t
    perform_shown (Flag on) i k t = t
    perform_shown Save i k t = t

    returned_shown : (a : Active) (below : List Active) (v : Value) → Shows s → Shows (returned P s a below v)
    returned_shown a [] v t = t
    returned_shown a (b ∷ below) v t = either a.handler _ _ t t

    fallen_shown : (a : Active) (below : List Active) → Shows s → Shows (fallen P s a below)
    fallen_shown a below t = either (gives_nothing (slice_get P.funcs a.func) || (a.func == P.main)) _ _ (returned_shown a below no_value t) t

    done_shown : (x : is.Stmt-F Stmt Case) (a : Active) (below : List Active) (v : Value) → Shows s → Shows (done P x s a below v)
    done_shown x a below v t = either (is_return x) _ _ (returned_shown a below v t) t

    stepped_shown : (x : is.Stmt-F Stmt Case) (a : Active) (below : List Active) (q : Progress (Option Value)) → ((action : Action) → q ≡ Waits action → IsAction P openings action × IsSeenFit P openings action) → Shows s → Shows (stepped P x s a below q)
    stepped_shown x a below (Waits action) k t = let f = k action refl in perform_shown action f.0 f.1 t
    stepped_shown x a below (Traps ms) k t = t
    stepped_shown x a below (Known None ms) k t = t
    stepped_shown x a below (Known (Some v) ms) k t = done_shown x a below v t

    step_shown : (a : Active) (below : List Active) → IsActive P openings a → (l : List Stmt) → a.here.rest ≡ l → Shows s → Shows (active_step P l s a below)
    step_shown a below i [] e t = fallen_shown a below t
    step_shown a below i (x ∷ rest) e t =
        stepped_shown (out-Stmt x) a below (progress_of P a (worked (out-Stmt x) a.here.phase))
        (λ action w. let v = ap (progress_of P a) (ap (worked_at a.here) e) ∙ w in (asked P openings a i action v, seen openings a i action v)) t

  module _ (sound : IsTypedProgram P) where
    proceed_shown : (s : State) → IsState P s → is_going s.end ≡ true → Shows s → Shows (proceed P s s.stack)
    proceed_shown s h g t =
        let run = h.1.running g in
        subst (λ (stack : List Active). Shows (proceed P s stack)) (sym run.2)
        (step_shown h.0 (with_stack s (run.0 ∷ run.1)) (subst (λ (stack : List Active). IsStateOf P h.0 (with_stack s stack)) run.2 h.1) run.0 run.1 ((subst (AreActive P h.0) run.2 h.1.stack).0) run.0.here.rest refl t)

    goes_on : (s : State) → IsState P s → (b : Bool) → is_going s.end ≡ b → Shows s → Shows (if b then proceed P s s.stack else s)
    goes_on s h true e t = proceed_shown s h e t
    goes_on s h false e t = t

    turn_by_shown : (s : State) → IsState P s → (x : Option (ℕ × Func)) → Shows s → Shows (turn_by P s x)
    turn_by_shown s h None t = goes_on s h (is_going s.end) refl t
    turn_by_shown s h (Some e) t = one_more s.memory.trace (event.Enter e.0) t tt

    turn_shown : (s : State) → IsState P s → (arrival : Option ℕ) → Shows s → Shows (turn P s arrival)
    turn_shown s h arrival t = turn_by_shown s h (entering P s arrival) t

    run_shown : (s : State) → IsState P s → (arrivals : Arrivals) → Shows s → Shows (run P s arrivals)
    run_shown s h [] t = t
    run_shown s h (a ∷ rest) t = run_shown (turn P s a) (turn_state P sound s h a) rest (turn_shown s h a t)

    pub shows_none : ShowsNoRegister P
    shows_none inputs arrivals = run_shown (start P inputs) (start_state P sound inputs) arrivals tt
