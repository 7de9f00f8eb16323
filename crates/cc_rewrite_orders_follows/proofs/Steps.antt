-- Steps by other numbers of static objects, state by state.
use Rattle.std.proofs.Common.{◌≡◌, ◌∙◌, ◌∷◌, ◌==◌, ◌||◌, ◌+◌, ◌⊎◌, inl, inr, ℕ, zero, suc, ℤ, Bool, true, false, List, [], map, length, Option, Some, None, option_map, option_and_then, slice_get, refl, ap, sym, subst, if◌then◌else◌}
use Rattle.std.specs.Prelude.{◌≢◌, slice_set, replicate}
use Rattle.std.proofs.lemmas.Bool.Decides.{eqb_tells}
use Rattle.std.proofs.lemmas.List.{map-append, map-set}
use Rattle.std.proofs.lemmas.Option.{slice_get-map}
use Rattle.cc_program.specs.CcNum.Integers.{converted}
use Rattle.cc_program.specs.CcNum.Results.{one_if}
use Rattle.cc_states.specs.CcCells.Cells.{scalar_in, set_scalar, with_scalar}
use Rattle.cc_states.specs.CcCells.Scalars.{zeros, position}
use Rattle.cc_states.specs.CcControl.Control.{close, level}
use Rattle.cc_states.specs.CcControl.declared.phase.Phase.TheVariants.{First}
use Rattle.cc_states.specs.CcEval.declared.action.Action.{Action}
use Rattle.cc_states.specs.CcEval.declared.action.Action.TheVariants.{Read, Write, Choose, Call, Flag, Save}
use Rattle.cc_states.specs.CcEval.declared.action.Manner.{Manner}
use Rattle.cc_states.specs.CcEval.declared.mark.Mark.{Mark}
use Rattle.cc_states.specs.CcEval.declared.mark.Mark.TheVariants.{Gave, Did, Chose}
use Rattle.cc_states.specs.CcEval.Progress.{Progress, Known, Waits, Traps, no_value}
use Rattle.cc_program.specs.declared.func.Func.{Func}
use Rattle.cc_program.specs.declared.object.Device.{Device}
use Rattle.cc_program.specs.declared.object.Object.{Object}
use Rattle.cc_program.specs.declared.program.Program.{Program}
use Rattle.cc_program.specs.declared.stmt.Case.{Case}
use Rattle.cc_program.specs.declared.stmt.Stmt.{Stmt, out-Stmt}
use Rattle.cc_program.specs.declared.stmt.Stmt.TheOpen as is
use Rattle.cc_program.specs.declared.value.Address.{Address}
use Rattle.cc_program.specs.declared.value.Address.TheVariants as address
use Rattle.cc_program.specs.declared.value.Cell.{Cell}
use Rattle.cc_program.specs.declared.value.Cell.TheVariants as cell
use Rattle.cc_program.specs.declared.value.Part.{Part}
use Rattle.cc_program.specs.declared.value.Root.{Root}
use Rattle.cc_program.specs.declared.value.Root.TheVariants as root
use Rattle.cc_program.specs.declared.value.Value.{Value}
use Rattle.cc_program.specs.declared.value.Value.TheVariants.{Int}
use Rattle.cc_states.specs.CcSteps.declared.content.Content.{Content}
use Rattle.cc_states.specs.CcSteps.declared.content.Content.TheVariants.{Gone, Unwritten, Holds}
use Rattle.cc_states.specs.CcSteps.declared.event.End.{End}
use Rattle.cc_states.specs.CcSteps.declared.event.End.TheVariants.{Exit, Trap, Starved}
use Rattle.cc_states.specs.CcSteps.declared.event.Event.{Event}
use Rattle.cc_states.specs.CcSteps.declared.event.Event.TheVariants as event
use Rattle.cc_states.specs.CcSteps.Access.{content, local_content, with_locals, is_open, with_local}
use Rattle.cc_states.specs.CcSteps.State.{Active, Memory, State, locals_with}
use Rattle.cc_states.specs.CcSteps.Step.{stopped, with_stack, with_flag, with_statics, with_inputs, with_event, static_content, content_at, written, gives_nothing, next_place, is_return, worked, progress_of, goes_to, marked, on_top, did, cell_position, has_read, input_read, read, has_written, write, activation, opened, opened_if, call, return_mark, returned, fallen, perform, done, stepped, active_step, proceed}
use Rattle.cc_states.proofs.CcSteps.CellsApart.{elsewhere, written_here}
use Rattle.cc_states.specs.CcSyntax.Types.{Named}
use Rattle.cc_rewrite_renamed.specs.Objects.{expr_renamed, root_renamed, address_renamed, func_renamed}
use Rattle.cc_rewrite_renamed.specs.Renaming.{value_renamed, may_renamed, cell_renamed, action_renamed, mark_renamed, progress_renamed, AreRenamed}
use Rattle.cc_rewrite_renamed.proofs.Places.{func_same, object_same}
use Rattle.cc_rewrite_orders_follows.proofs.Actives.{there, act, progress_same, goes_to_same, marked_same, number_in_kept, next_place_same}
use Rattle.cc_rewrite_orders_follows.proofs.Controls.{list_there, layer_there, out_there, worked_same, close_same}
use Rattle.cc_rewrite_orders_follows.proofs.Events.{event_renamed}

module _ (r : ℕ → ℕ) (objects : List Object) (P : Program) (renamed : AreRenamed r objects P) where
  abbrev pub Q : Program
  Q = there r objects P renamed

  abbrev may : Option Value → Option Value
  may v = may_renamed r v

  abbrev pub new : Value → Value
  new v = value_renamed r v

  abbrev pub act_there : Active → Active
  act_there b = act r objects P renamed b

  -- ---- states

  abbrev pub stack_renamed : List Active → List Active
  stack_renamed ps = map act_there ps

  -- the scalars of static objects, by other numbers
  abbrev pub AreStaticsSame : List (List Value) → List (List Value) → Type 0
  AreStaticsSame ss ks = (i : ℕ) → slice_get ss (r i) ≡ option_map (map new) (slice_get ks i)

  abbrev pub memory_renamed : List (List Value) → Memory → Memory
  memory_renamed ss m = record { flag = m.flag; statics = ss; inputs = m.inputs; trace = map (event_renamed r) m.trace }

  abbrev pub state_renamed : List (List Value) → State → State
  state_renamed ss t = record { memory = memory_renamed ss t.memory; stack = stack_renamed t.stack; opened = t.opened; end = t.end }

  abbrev pub IsStateSame : State → State → Type 0
  IsStateSame s t = (ss : List (List Value)) × (s ≡ state_renamed ss t) × AreStaticsSame ss t.memory.statics

  abbrev Statics : List (List Value) → State → Type 0
  Statics ss t = AreStaticsSame ss t.memory.statics

  stopped_same : (ss : List (List Value)) (t : State) (end : End) → Statics ss t → IsStateSame (stopped (state_renamed ss t) end) (stopped t end)
  stopped_same ss t end h = (ss, refl, h)

  pub state_if : (b : Bool) (w x y z : State) → IsStateSame w y → IsStateSame x z → IsStateSame (if b then w else x) (if b then y else z)
  state_if true w x y z h k = h
  state_if false w x y z h k = k

  -- ---- marks

  on_top_same : (ps : List Active) (m : Mark) → on_top Q (stack_renamed ps) (mark_renamed r m) ≡ stack_renamed (on_top P ps m)
  on_top_same [] m = refl
  on_top_same (b ∷ ps) m = ap (λ (a : Active). a ∷ stack_renamed ps) (marked_same r objects P renamed b m)

  did_same : (ss : List (List Value)) (t : State) (m : Mark) → Statics ss t → IsStateSame (did Q (state_renamed ss t) (mark_renamed r m)) (did P t m)
  did_same ss t m h = (ss, ap (λ (qs : List Active). with_stack (state_renamed ss t) qs) (on_top_same t.stack m), h)

  pub event_same : (b : Bool) (ss : List (List Value)) (t : State) (e : Event) → with_event b (state_renamed ss t) (event_renamed r e) ≡ state_renamed ss (with_event b t e)
  event_same true ss t e =
      ap (λ trace. record { memory = record { flag = t.memory.flag; statics = ss; inputs = t.memory.inputs; trace = trace }; stack = stack_renamed t.stack; opened = t.opened; end = t.end })
      (sym (map-append (event_renamed r) t.memory.trace (e ∷ [])))
  event_same false ss t e = refl

  pub event_statics : (b : Bool) (t : State) (e : Event) → (with_event b t e).memory.statics ≡ t.memory.statics
  event_statics true t e = refl
  event_statics false t e = refl

  did_event : (b : Bool) (ss : List (List Value)) (t : State) (e : Event) (m : Mark) → Statics ss t →
      IsStateSame (did Q (with_event b (state_renamed ss t) (event_renamed r e)) (mark_renamed r m)) (did P (with_event b t e) m)
  did_event b ss t e m h =
      subst (λ s. IsStateSame (did Q s (mark_renamed r m)) (did P (with_event b t e) m)) (sym (event_same b ss t e))
      (did_same ss (with_event b t e) m (subst (AreStaticsSame ss) (sym (event_statics b t e)) h))

  -- ---- reads

  scalar_by : {A B : Type 0} (f : A → B) (scalars : Option (List A)) (k : ℕ) → option_and_then (λ xs. slice_get xs k) (option_map (map f) scalars) ≡ option_map f (option_and_then (λ xs. slice_get xs k) scalars)
  scalar_by f None k = refl
  scalar_by f (Some xs) k = slice_get-map f xs k

  static_scalar : (ss ks : List (List Value)) (i k : ℕ) → AreStaticsSame ss ks → scalar_in ss (r i) k ≡ option_map new (scalar_in ks i k)
  static_scalar ss ks i k h = ap (option_and_then (λ xs. slice_get xs k)) (h i) ∙ scalar_by new (slice_get ks i) k

  local_scalar : (cells : List (List (Option Value))) (i k : ℕ) → scalar_in (map (map may) cells) i k ≡ option_map may (scalar_in cells i k)
  local_scalar cells i k = ap (option_and_then (λ xs. slice_get xs k)) (slice_get-map (map may) cells i) ∙ scalar_by may (slice_get cells i) k

  abbrev content_renamed : Content → Content
  content_renamed Gone = Gone
  content_renamed Unwritten = Unwritten
  content_renamed (Holds v) = Holds (new v)

  static_same : (v : Option Value) → static_content (option_map new v) ≡ content_renamed (static_content v)
  static_same None = refl
  static_same (Some v) = refl

  content_same : (v : Option (Option Value)) → content (option_map may v) ≡ content_renamed (content v)
  content_same None = refl
  content_same (Some None) = refl
  content_same (Some (Some v)) = refl

  content_if : (b : Bool) (x y : Content) (z w : Content) → x ≡ content_renamed z → y ≡ content_renamed w → (if b then x else y) ≡ content_renamed (if b then z else w)
  content_if true x y z w h k = h
  content_if false x y z w h k = k

  local_content_same : (ps : List Active) (number local k : ℕ) → local_content (stack_renamed ps) number local k ≡ content_renamed (local_content ps number local k)
  local_content_same [] number local k = refl
  local_content_same (b ∷ ps) number local k =
      content_if (b.number == number) (content (scalar_in (map (map may) b.locals) local k)) (local_content (stack_renamed ps) number local k) (content (scalar_in b.locals local k)) (local_content ps number local k)
      (ap content (local_scalar b.locals local k) ∙ content_same (scalar_in b.locals local k)) (local_content_same ps number local k)

  position_same : (o : Root) (path : List Part) → cell_position Q (root_renamed r o) path ≡ cell_position P o path
  position_same o path = ap (position P.structures path) (object_same r objects P renamed o)

  content_at_same : (ss : List (List Value)) (t : State) (o : Root) (k : ℕ) → Statics ss t → content_at (state_renamed ss t) (root_renamed r o) k ≡ content_renamed (content_at t o k)
  content_at_same ss t (root.Static i) k h = ap static_content (static_scalar ss t.memory.statics i k h) ∙ static_same (scalar_in t.memory.statics i k)
  content_at_same ss t (root.Auto number func local) k h = local_content_same t.stack number local k

  has_read_same : (ss : List (List Value)) (t : State) (at : Cell) (manner : Manner) (c : Content) → Statics ss t →
      IsStateSame (has_read Q (state_renamed ss t) (cell_renamed r at) manner (content_renamed c)) (has_read P t at manner c)
  has_read_same ss t at manner Gone h = stopped_same ss t Trap h
  has_read_same ss t at manner Unwritten h = state_if manner.may_be_bad _ _ _ _ (did_same ss t (Gave None) h) (stopped_same ss t Trap h)
  has_read_same ss t at manner (Holds v) h = did_event manner.is_event ss t (event.Read at v) (Gave (Some v)) h

  input_same : (ss : List (List Value)) (t : State) (d : ℕ) (device : Option Device) (inputs : List ℤ) → Statics ss t →
      IsStateSame (input_read Q (state_renamed ss t) d device inputs) (input_read P t d device inputs)
  input_same ss t d None inputs h = stopped_same ss t Trap h
  input_same ss t d (Some device) [] h = stopped_same ss t Starved h
  input_same ss t d (Some device) (n ∷ inputs) h =
      did_event true ss (with_inputs t inputs) (event.Read (cell.Device d) (Int (converted n device.int P.target))) (Gave (Some (Int (converted n device.int P.target)))) h

  read_same : (ss : List (List Value)) (t : State) (at : Cell) (manner : Manner) → Statics ss t → IsStateSame (read Q (state_renamed ss t) (cell_renamed r at) manner) (read P t at manner)
  read_same ss t (cell.Device d) manner h = input_same ss t d (slice_get P.devices d) t.memory.inputs h
  read_same ss t (cell.At o path) manner h =
      subst (λ x. IsStateSame (has_read Q (state_renamed ss t) (cell_renamed r (cell.At o path)) manner x) (read P t (cell.At o path) manner))
      (sym (ap (content_at (state_renamed ss t) (root_renamed r o)) (position_same o path) ∙ content_at_same ss t o (cell_position P o path) h))
      (has_read_same ss t (cell.At o path) manner (content_at t o (cell_position P o path)) h)

  -- ---- writes

  set_map : (xs : Option (List Value)) (k : ℕ) (v : Value) → option_map (λ s. slice_set s k (new v)) (option_map (map new) xs) ≡ option_map (map new) (option_map (λ s. slice_set s k v) xs)
  set_map None k v = refl
  set_map (Some xs) k v = ap (λ l. Some l) (sym (map-set new xs k v))

  statics_written : (ss ks : List (List Value)) (i k : ℕ) (v : Value) → AreStaticsSame ss ks → AreStaticsSame (with_scalar ss (r i) k (new v)) (with_scalar ks i k v)
  statics_written ss ks i k v h j = by (eqb_tells i j)
    where
      by : (((i == j) ≡ true) × (i ≡ j)) ⊎ (((i == j) ≡ false) × (i ≢ j)) → slice_get (with_scalar ss (r i) k (new v)) (r j) ≡ option_map (map new) (slice_get (with_scalar ks i k v) j)
      by (inl (t, same)) =
          ap (λ n. slice_get (with_scalar ss (r i) k (new v)) (r n)) (sym same)
          ∙ written_here ss (r i) k (new v)
          ∙ ap (option_map (λ s. slice_set s k (new v))) (h i)
          ∙ set_map (slice_get ks i) k v
          ∙ ap (option_map (map new)) (sym (written_here ks i k v) ∙ ap (slice_get (with_scalar ks i k v)) same)
      by (inr (f, other)) =
          elsewhere ss (r i) (r j) k (new v) (λ e. other (renamed.apart i j e)) ∙ h j ∙ ap (option_map (map new)) (sym (elsewhere ks i j k v other))

  set_by : (cells : List (List (Option Value))) (i k : ℕ) (v : Option Value) (x : Option (List (Option Value))) →
      set_scalar (map (map may) cells) i k (may v) (option_map (map may) x) ≡ map (map may) (set_scalar cells i k v x)
  set_by cells i k v None = refl
  set_by cells i k v (Some xs) = ap (slice_set (map (map may) cells) i) (sym (map-set may xs k v)) ∙ sym (map-set (map may) cells i (slice_set xs k v))

  locals_written : (cells : List (List (Option Value))) (i k : ℕ) (v : Option Value) → with_scalar (map (map may) cells) i k (may v) ≡ map (map may) (with_scalar cells i k v)
  locals_written cells i k v = ap (set_scalar (map (map may) cells) i k (may v)) (slice_get-map (map may) cells i) ∙ set_by cells i k v (slice_get cells i)

  open_same : (ps : List Active) (number : ℕ) → is_open (stack_renamed ps) number ≡ is_open ps number
  open_same [] number = refl
  open_same (b ∷ ps) number = ap (λ (x : Bool). if b.number == number then true else x) (open_same ps number)

  stack_if : (b : Bool) (x y : List Active) (z w : List Active) → x ≡ stack_renamed z → y ≡ stack_renamed w → (if b then x else y) ≡ stack_renamed (if b then z else w)
  stack_if true x y z w h k = h
  stack_if false x y z w h k = k

  with_local_same : (ps : List Active) (number local k : ℕ) (v : Value) → with_local (stack_renamed ps) number local k (new v) ≡ stack_renamed (with_local ps number local k v)
  with_local_same [] number local k v = refl
  with_local_same (b ∷ ps) number local k v =
      stack_if (b.number == number) (with_locals (act_there b) (with_scalar (map (map may) b.locals) local k (Some (new v))) ∷ stack_renamed ps) (act_there b ∷ with_local (stack_renamed ps) number local k (new v))
      (with_locals b (with_scalar b.locals local k (Some v)) ∷ ps) (b ∷ with_local ps number local k v)
      (ap (λ (cells : List (List (Option Value))). with_locals (act_there b) cells ∷ stack_renamed ps) (locals_written b.locals local k (Some v)))
      (ap (λ (qs : List Active). act_there b ∷ qs) (with_local_same ps number local k v))

  written_if : (b : Bool) (at : Cell) (is_event : Bool) (v : Value) (ss : List (List Value)) (t : State) (u : State) → Statics ss t → Statics ss u →
      IsStateSame (has_written Q (cell_renamed r at) is_event (new v) (state_renamed ss t) (if b then Some (state_renamed ss u) else None)) (has_written P at is_event v t (if b then Some u else None))
  written_if true at is_event v ss t u h k = did_event is_event ss u (event.Write at v) Did k
  written_if false at is_event v ss t u h k = stopped_same ss t Trap h

  local_if : (ss : List (List Value)) (t : State) (number func local k : ℕ) (v : Value) →
      written (state_renamed ss t) (root.Auto number func local) k (new v) ≡ (if is_open t.stack number then Some (state_renamed ss (with_stack t (with_local t.stack number local k v))) else None)
  local_if ss t number func local k v = λ i. if open_same t.stack number i then Some (with_stack (state_renamed ss t) (with_local_same t.stack number local k v i)) else None

  write_at : (ss : List (List Value)) (t : State) (o : Root) (path : List Part) (is_event : Bool) (v : Value) (k : ℕ) → Statics ss t →
      IsStateSame (has_written Q (cell_renamed r (cell.At o path)) is_event (new v) (state_renamed ss t) (written (state_renamed ss t) (root_renamed r o) k (new v))) (has_written P (cell.At o path) is_event v t (written t o k v))
  write_at ss t (root.Static i) path is_event v k h =
      did_event is_event (with_scalar ss (r i) k (new v)) (with_statics t (with_scalar t.memory.statics i k v)) (event.Write (cell.At (root.Static i) path) v) Did (statics_written ss t.memory.statics i k v h)
  write_at ss t (root.Auto number func local) path is_event v k h =
      subst (λ x. IsStateSame (has_written Q (cell.At (root.Auto number func local) path) is_event (new v) (state_renamed ss t) x) (has_written P (cell.At (root.Auto number func local) path) is_event v t (written t (root.Auto number func local) k v)))
      (sym (local_if ss t number func local k v))
      (written_if (is_open t.stack number) (cell.At (root.Auto number func local) path) is_event v ss t (with_stack t (with_local t.stack number local k v)) h h)

  write_same : (ss : List (List Value)) (t : State) (at : Cell) (is_event : Bool) (v : Value) → Statics ss t → IsStateSame (write Q (state_renamed ss t) (cell_renamed r at) is_event (new v)) (write P t at is_event v)
  write_same ss t (cell.Device d) is_event v h = did_event true ss t (event.Write (cell.Device d) v) Did h
  write_same ss t (cell.At o path) is_event v h =
      subst (λ k. IsStateSame (has_written Q (cell_renamed r (cell.At o path)) is_event (new v) (state_renamed ss t) (written (state_renamed ss t) (root_renamed r o) k (new v))) (write P t (cell.At o path) is_event v)) (sym (position_same o path))
      (write_at ss t o path is_event v (cell_position P o path) h)

  -- ---- calls

  none_renamed : (n : ℕ) → replicate n None ≡ map may (replicate n None)
  none_renamed zero = refl
  none_renamed (suc n) = ap (λ (l : List (Option Value)). None ∷ l) (none_renamed n)

  locals_same : (args : List Value) (ls : List Named) → locals_with Q (map new args) ls ≡ map (map may) (locals_with P args ls)
  locals_same args [] = refl
  locals_same [] (l ∷ ls) = λ i. none_renamed (length (zeros P.structures l.1)) i ∷ locals_same [] ls i
  locals_same (v ∷ args) (l ∷ ls) = ap (λ (cells : List (List (Option Value))). (Some (new v) ∷ []) ∷ cells) (locals_same args ls)

  abbrev before : ℕ → ℕ → Bool → List (List (Option Value)) → Active
  before number id handler ls = record { number = number; func = id; handler = handler; locals = ls; here = level [] 0 First; around = []; marks = [] }

  pub activation_same : (number id : ℕ) (handler : Bool) (args : List Value) (f : Func) → activation Q number id handler (map new args) (func_renamed r f) ≡ act_there (activation P number id handler args f)
  activation_same number id handler args f =
      ap (λ (ls : List (List (Option Value))). goes_to Q (before number id handler ls) (close (list_there (expr_renamed r) f.body) 0 [])) (locals_same args f.locals)
      ∙ ap (goes_to Q (before number id handler (map (map may) (locals_with P args f.locals)))) (close_same (expr_renamed r) f.body 0 [])
      ∙ goes_to_same r objects P renamed (before number id handler (locals_with P args f.locals)) (close f.body 0 [])

  pub opened_same : (ss : List (List Value)) (t : State) (id : ℕ) (handler : Bool) (args : List Value) (f : Func) → Statics ss t →
      IsStateSame (opened Q (state_renamed ss t) id handler (map new args) (func_renamed r f)) (opened P t id handler args f)
  opened_same ss t id handler args f h =
      (ss, ap (λ (a : Active). record { memory = memory_renamed ss t.memory; stack = a ∷ stack_renamed t.stack; opened = t.opened + 1; end = t.end }) (activation_same t.opened id handler args f), h)

  opened_by : (ss : List (List Value)) (t : State) (id : ℕ) (args : List Value) (f : Option Func) → Statics ss t →
      IsStateSame (opened_if Q (state_renamed ss t) id (map new args) (option_map (func_renamed r) f)) (opened_if P t id args f)
  opened_by ss t id args None h = stopped_same ss t Trap h
  opened_by ss t id args (Some f) h = opened_same ss t id false args f h

  call_same : (ss : List (List Value)) (t : State) (callee : Address) (args : List Value) → Statics ss t → IsStateSame (call Q (state_renamed ss t) (address_renamed r callee) (map new args)) (call P t callee args)
  call_same ss t address.Null args h = stopped_same ss t Trap h
  call_same ss t (address.Func id) args h =
      subst (λ f. IsStateSame (opened_if Q (state_renamed ss t) id (map new args) f) (opened_if P t id args (slice_get P.funcs id))) (sym (slice_get-map (func_renamed r) P.funcs id))
      (opened_by ss t id args (slice_get P.funcs id) h)
  call_same ss t (address.At object path index count) args h = stopped_same ss t Trap h

  -- ---- returns

  gives_same : (id : ℕ) → gives_nothing (slice_get Q.funcs id) ≡ gives_nothing (slice_get P.funcs id)
  gives_same id = func_same r objects P renamed gives_nothing (λ f. refl) id

  mark_if : (b : Bool) (v : Value) → (if b then Did else Gave (Some (new v))) ≡ mark_renamed r (if b then Did else Gave (Some v))
  mark_if true v = refl
  mark_if false v = refl

  return_mark_same : (id : ℕ) (v : Value) → return_mark Q id (new v) ≡ mark_renamed r (return_mark P id v)
  return_mark_same id v = ap (λ (b : Bool). if b then Did else Gave (Some (new v))) (gives_same id) ∙ mark_if (gives_nothing (slice_get P.funcs id)) v

  returned_same : (ss : List (List Value)) (ps : List Active) (b : Active) (t : State) (v : Value) → Statics ss t → IsStateSame (returned Q (state_renamed ss t) (act_there b) (stack_renamed ps) (new v)) (returned P t b ps v)
  returned_same ss [] b t v h = (ss, ap (λ n. stopped (with_stack (state_renamed ss t) []) (Exit n)) (number_in_kept r objects P renamed v), h)
  returned_same ss (d ∷ ps) b t v h =
      state_if b.handler (with_flag (with_stack (state_renamed ss t) (stack_renamed (d ∷ ps))) true) (with_stack (state_renamed ss t) (marked Q (act_there d) (return_mark Q b.func (new v)) ∷ stack_renamed ps))
      (with_flag (with_stack t (d ∷ ps)) true) (with_stack t (marked P d (return_mark P b.func v) ∷ ps))
      (ss, refl, h) (
        ss,
        ap (λ (a : Active). with_stack (state_renamed ss t) (a ∷ stack_renamed ps)) (ap (marked Q (act_there d)) (return_mark_same b.func v) ∙ marked_same r objects P renamed d (return_mark P b.func v)),
        h,
      )

  fallen_same : (ss : List (List Value)) (ps : List Active) (b : Active) (t : State) → Statics ss t → IsStateSame (fallen Q (state_renamed ss t) (act_there b) (stack_renamed ps)) (fallen P t b ps)
  fallen_same ss ps b t h =
      subst (λ x. IsStateSame (if x || (b.func == P.main) then returned Q (state_renamed ss t) (act_there b) (stack_renamed ps) no_value else stopped (state_renamed ss t) Trap) (fallen P t b ps)) (sym (gives_same b.func))
      (state_if (gives_nothing (slice_get P.funcs b.func) || (b.func == P.main)) _ _ _ _ (returned_same ss ps b t no_value h) (stopped_same ss t Trap h))

  -- ---- steps of the running activation

  perform_same : (ss : List (List Value)) (t : State) (action : Action) → Statics ss t → IsStateSame (perform Q (state_renamed ss t) (action_renamed r action)) (perform P t action)
  perform_same ss t (Read at manner) h = read_same ss t at manner h
  perform_same ss t (Write at is_event v) h = write_same ss t at is_event v h
  perform_same ss t (Choose b) h = did_same ss t (Chose b) h
  perform_same ss t (Call callee args) h = call_same ss t callee args h
  perform_same ss t (Flag on) h = did_same ss (with_flag t on) Did h
  perform_same ss t Save h = did_same ss (with_flag t false) (Gave (Some (Int (one_if t.memory.flag)))) h

  abbrev layer : is.Stmt-F Stmt Case → is.Stmt-F Stmt Case
  layer x = layer_there (expr_renamed r) x

  return_there : (x : is.Stmt-F Stmt Case) → is_return (layer x) ≡ is_return x
  return_there (is.Do e) = refl
  return_there (is.If e these those) = refl
  return_there (is.While e body) = refl
  return_there (is.DoWhile body e) = refl
  return_there (is.For first test again body) = refl
  return_there (is.Switch e cases) = refl
  return_there is.Break = refl
  return_there is.Continue = refl
  return_there (is.Return e) = refl
  return_there is.Empty = refl
  return_there (is.Block body) = refl

  module _ (ss : List (List Value)) (ps : List Active) (b : Active) (t : State) (h : Statics ss t) where
    gone_same : (x : is.Stmt-F Stmt Case) (v : Value) → goes_to Q (act_there b) (next_place (layer x) (act_there b) (new v)) ≡ act_there (goes_to P b (next_place x b v))
    gone_same x v = ap (goes_to Q (act_there b)) (next_place_same r objects P renamed b x v) ∙ goes_to_same r objects P renamed b (next_place x b v)

    done_same : (x : is.Stmt-F Stmt Case) (v : Value) → IsStateSame (done Q (layer x) (state_renamed ss t) (act_there b) (stack_renamed ps) (new v)) (done P x t b ps v)
    done_same x v =
        subst (λ c. IsStateSame (if c then returned Q (state_renamed ss t) (act_there b) (stack_renamed ps) (new v) else with_stack (state_renamed ss t) (goes_to Q (act_there b) (next_place (layer x) (act_there b) (new v)) ∷ stack_renamed ps)) (done P x t b ps v)) (sym (return_there x))
        (state_if (is_return x) _ _ _ _ (returned_same ss ps b t v h) (ss, ap (λ (a : Active). with_stack (state_renamed ss t) (a ∷ stack_renamed ps)) (gone_same x v), h))

    stepped_same : (x : is.Stmt-F Stmt Case) (q : Progress (Option Value)) → IsStateSame (stepped Q (layer x) (state_renamed ss t) (act_there b) (stack_renamed ps) (progress_renamed r may q)) (stepped P x t b ps q)
    stepped_same x (Waits action) = perform_same ss t action h
    stepped_same x (Traps ms) = stopped_same ss t Trap h
    stepped_same x (Known None ms) = stopped_same ss t Trap h
    stepped_same x (Known (Some v) ms) = done_same x v

    step_same : (l : List Stmt) → IsStateSame (active_step Q (list_there (expr_renamed r) l) (state_renamed ss t) (act_there b) (stack_renamed ps)) (active_step P l t b ps)
    step_same [] = fallen_same ss ps b t h
    step_same (s ∷ rest) =
        subst (λ y. IsStateSame (stepped Q y (state_renamed ss t) (act_there b) (stack_renamed ps) (progress_of Q (act_there b) (worked y b.here.phase))) (active_step P (s ∷ rest) t b ps)) (sym (out_there (expr_renamed r) s))
        (subst (λ y. IsStateSame (stepped Q (layer (out-Stmt s)) (state_renamed ss t) (act_there b) (stack_renamed ps) y) (active_step P (s ∷ rest) t b ps))
        (sym (ap (progress_of Q (act_there b)) (worked_same (expr_renamed r) (out-Stmt s) b.here.phase) ∙ progress_same r objects P renamed b.number b.func b.marks (worked (out-Stmt s) b.here.phase)))
        (stepped_same (out-Stmt s) (progress_of P b (worked (out-Stmt s) b.here.phase))))

  pub proceed_same : (ss : List (List Value)) (t : State) (ps : List Active) → Statics ss t → IsStateSame (proceed Q (state_renamed ss t) (stack_renamed ps)) (proceed P t ps)
  proceed_same ss t [] h = stopped_same ss t Trap h
  proceed_same ss t (b ∷ ps) h = step_same ss ps b (with_stack t (b ∷ ps)) h b.here.rest
