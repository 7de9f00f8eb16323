-- Steps by other numbers, state by state. What a step touches is a local of an activation of its function, and a call has no more arguments than
-- the function has parameters.
use Rattle.std.proofs.Common.{◌≡◌, ◌∙◌, ◌<◌, ◌≤◌, ◌∷◌, ◌==◌, ◌||◌, ◌⊎◌, inl, inr, ℕ, zero, suc, ℤ, Bool, true, false, List, [], map, length, Option, Some, None, option_map, option_and_then, slice_get, refl, ap, sym, subst, arith, if◌then◌else◌}
use Rattle.std.specs.Prelude.{◌≢◌, slice_set, replicate}
use Rattle.std.proofs.lemmas.Bool.Decides.{eqb_tells}
use Rattle.std.proofs.lemmas.List.{map-append, map-set, length-map}
use Rattle.std.proofs.lemmas.Option.{slice_get-map}
use Rattle.cc_program.specs.CcNum.Integers.{converted}
use Rattle.cc_program.specs.CcNum.Results.{one_if}
use Rattle.cc_states.specs.CcCells.Cells.{scalar_in, set_scalar, with_scalar}
use Rattle.cc_states.specs.CcCells.Scalars.{zeros, position}
use Rattle.cc_states.specs.CcControl.Control.{close, level, behind}
use Rattle.cc_states.specs.CcControl.declared.phase.Phase.TheVariants.{First}
use Rattle.cc_states.specs.CcEval.declared.action.Action.{Action}
use Rattle.cc_states.specs.CcEval.declared.action.Action.TheVariants.{Read, Write, Choose, Call, Flag, Save}
use Rattle.cc_states.specs.CcEval.declared.action.Manner.{Manner}
use Rattle.cc_states.specs.CcEval.declared.mark.Mark.{Mark}
use Rattle.cc_states.specs.CcEval.declared.mark.Mark.TheVariants.{Gave, Did, Chose}
use Rattle.cc_states.specs.CcEval.Progress.{Progress, Known, Waits, Traps, no_value}
use Rattle.cc_program.specs.declared.func.Func.{Func}
use Rattle.cc_program.specs.declared.object.Device.{Device}
use Rattle.cc_program.specs.declared.program.Program.{Program}
use Rattle.cc_program.specs.declared.stmt.Case.{Case}
use Rattle.cc_program.specs.declared.stmt.Stmt.{Stmt, out-Stmt}
use Rattle.cc_program.specs.declared.stmt.Stmt.TheOpen as is
use Rattle.cc_program.specs.declared.types.CType.{CType}
use Rattle.cc_program.specs.declared.types.Sig.{out-Sig}
use Rattle.cc_program.specs.declared.value.Address.{Address}
use Rattle.cc_program.specs.declared.value.Address.TheVariants as address
use Rattle.cc_program.specs.declared.value.Cell.{Cell}
use Rattle.cc_program.specs.declared.value.Cell.TheVariants as cell
use Rattle.cc_program.specs.declared.value.Part.{Part}
use Rattle.cc_program.specs.declared.value.Root.{Root}
use Rattle.cc_program.specs.declared.value.Root.TheVariants as root
use Rattle.cc_program.specs.declared.value.Value.{Value}
use Rattle.cc_program.specs.declared.value.Value.TheVariants.{Int}
use Rattle.cc_states.specs.CcSteps.declared.content.Content.{Content}
use Rattle.cc_states.specs.CcSteps.declared.content.Content.TheVariants.{Gone, Unwritten, Holds}
use Rattle.cc_states.specs.CcSteps.declared.event.End.{End}
use Rattle.cc_states.specs.CcSteps.declared.event.End.TheVariants.{Exit, Trap, Starved}
use Rattle.cc_states.specs.CcSteps.declared.event.Event.{Event}
use Rattle.cc_states.specs.CcSteps.declared.event.Event.TheVariants as event
use Rattle.cc_states.specs.CcSteps.Access.{content, local_content, with_locals, is_open, with_local}
use Rattle.cc_states.specs.CcSteps.State.{Active, Memory, State, local_with, locals_with}
use Rattle.cc_states.specs.CcSteps.Step.{stopped, with_stack, with_flag, with_statics, with_event, with_mark, static_content, content_at, written, gives_nothing, is_known, at_test, moved, next_place, is_return, worked, progress_of, passes, goes_to, settled_in, settled, marked, on_top, did, cell_position, has_read, input_read, read, has_written, write, activation, opened, opened_if, call, return_mark, returned, fallen, perform, done, stepped, active_step}
use Rattle.cc_states.specs.CcSyntax.Types.{Named}
use Rattle.cc_states.specs.CcSyntax.Values.{is_void}
use Rattle.cc_states.proofs.CcSteps.CellsApart.{elsewhere, written_here}
use Rattle.cc_lower_numbers_follows.specs.Renaming.{Renaming, root_renamed, address_renamed, value_renamed, cell_renamed, action_renamed, mark_renamed, event_renamed, IsFuncRenamed, AreFuncsRenamed, IsRenamed}
use Rattle.cc_lower_numbers_follows.proofs.Actives.{there, active_renamed, progress_same, goes_to_same, marked_same, number_in_kept, next_place_same}
use Rattle.cc_lower_numbers_follows.proofs.Controls.{list_there, layer_there, out_there, worked_same, close_same}
use Rattle.cc_lower_numbers_follows.proofs.Gets.{progress_renamed}
use Rattle.cc_lower_numbers_follows.proofs.Places.{func_same, object_same}
use Rattle.cc_lower_numbers_follows.proofs.Values.{may_renamed}

-- what a mark keeps of an activation
module _ (p : Program) where
  abbrev IsKept : Active → Active → Type 0
  IsKept a b = (b.func ≡ a.func) × (b.locals ≡ a.locals)

  kept_if : (b : Bool) (a x y : Active) → IsKept a x → IsKept a y → IsKept a (if b then x else y)
  kept_if true a x y h k = h
  kept_if false a x y h k = k

  settled_in_kept : (x : is.Stmt-F Stmt Case) (a : Active) → IsKept a (settled_in p x a)
  settled_in_kept (is.Do e) a = kept_if (is_known (progress_of p a (Some e))) a (goes_to p a (behind a.here a.around)) a (refl, refl) (refl, refl)
  settled_in_kept (is.For first test again body) a = kept_if (passes p a.number a.func a.marks a.here) a (moved a (at_test a.here, a.around)) a (refl, refl) (refl, refl)
  settled_in_kept _ a = (refl, refl)

  settled_kept : (l : List Stmt) (a : Active) → IsKept a (settled p l a)
  settled_kept [] a = (refl, refl)
  settled_kept (s ∷ l) a = settled_in_kept (out-Stmt s) a

  marked_kept : (a : Active) (m : Mark) → IsKept a (marked p a m)
  marked_kept a m = settled_kept a.here.rest (with_mark a m)

module _ (r : Renaming) (devices : List Device) (funcs : List Func) (P : Program) (renamed : IsRenamed r devices funcs P) where
  abbrev pub Q : Program
  Q = there r devices funcs P renamed

  abbrev pub may : Option Value → Option Value
  may v = may_renamed r v

  abbrev pub new : Value → Value
  new v = value_renamed r v

  abbrev pub act : List (List (Option Value)) → Active → Active
  act ls b = active_renamed r devices funcs P renamed ls b

  -- ---- states

  -- the locals of an activation of a function, by other numbers
  abbrev pub AreLocalsSame : ℕ → List (List (Option Value)) → List (List (Option Value)) → Type 0
  AreLocalsSame id ls ks = (i : ℕ) → slice_get ls (r.local id i) ≡ option_map (map may) (slice_get ks i)

  abbrev pub IsActiveSame : Active → Active → Type 0
  IsActiveSame a b = (ls : List (List (Option Value))) × (a ≡ act ls b) × AreLocalsSame b.func ls b.locals

  abbrev pub AreStacksSame : List Active → List Active → Type 0
  AreStacksSame [] [] = Unit {0}
  AreStacksSame (a ∷ qs) (b ∷ ps) = IsActiveSame a b × AreStacksSame qs ps
  AreStacksSame [] (b ∷ ps) = ⊥
  AreStacksSame (a ∷ qs) [] = ⊥

  abbrev pub memory_renamed : Memory → Memory
  memory_renamed m = record { flag = m.flag; statics = map (map new) m.statics; inputs = m.inputs; trace = map (event_renamed r) m.trace }

  abbrev pub state_renamed : List Active → State → State
  state_renamed qs t = record { memory = memory_renamed t.memory; stack = qs; opened = t.opened; end = t.end }

  abbrev pub IsStateSame : State → State → Type 0
  IsStateSame s t = (qs : List Active) × (s ≡ state_renamed qs t) × AreStacksSame qs t.stack

  stopped_same : (qs : List Active) (t : State) (end : End) → AreStacksSame qs t.stack → IsStateSame (stopped (state_renamed qs t) end) (stopped t end)
  stopped_same qs t end h = (qs, refl, h)

  -- ---- marks

  locals_moved : (ls : List (List (Option Value))) (f g : ℕ) (ks js : List (List (Option Value))) → g ≡ f → js ≡ ks → AreLocalsSame f ls ks → AreLocalsSame g ls js
  locals_moved ls f g ks js e k h = subst (λ x. AreLocalsSame x ls js) (sym e) (subst (AreLocalsSame f ls) (sym k) h)

  marked_active : (a b : Active) (m : Mark) → IsActiveSame a b → IsActiveSame (marked Q a (mark_renamed r m)) (marked P b m)
  marked_active a b m h =
      let k = marked_kept P b m in
      (h.0, ap (λ x. marked Q x (mark_renamed r m)) h.1 ∙ marked_same r devices funcs P renamed h.0 b m, locals_moved h.0 b.func (marked P b m).func b.locals (marked P b m).locals k.0 k.1 h.2)

  on_top_same : (qs ps : List Active) (m : Mark) → AreStacksSame qs ps → AreStacksSame (on_top Q qs (mark_renamed r m)) (on_top P ps m)
  on_top_same [] [] m h = tt
  on_top_same (a ∷ qs) (b ∷ ps) m h = (marked_active a b m h.0, h.1)
  on_top_same [] (b ∷ ps) m h = absurd h
  on_top_same (a ∷ qs) [] m h = absurd h

  did_same : (qs : List Active) (t : State) (m : Mark) → AreStacksSame qs t.stack → IsStateSame (did Q (state_renamed qs t) (mark_renamed r m)) (did P t m)
  did_same qs t m h = (on_top Q qs (mark_renamed r m), refl, on_top_same qs t.stack m h)

  with_trace : State → List Event → State
  with_trace s trace = record { memory = record { flag = s.memory.flag; statics = s.memory.statics; inputs = s.memory.inputs; trace = trace }; stack = s.stack; opened = s.opened; end = s.end }

  pub event_same : (b : Bool) (qs : List Active) (t : State) (e : Event) → with_event b (state_renamed qs t) (event_renamed r e) ≡ state_renamed qs (with_event b t e)
  event_same true qs t e =
      ap (λ trace. record { memory = record { flag = t.memory.flag; statics = map (map new) t.memory.statics; inputs = t.memory.inputs; trace = trace }; stack = qs; opened = t.opened; end = t.end })
      (sym (map-append (event_renamed r) t.memory.trace (e ∷ [])))
  event_same false qs t e = refl

  event_stack : (b : Bool) (t : State) (e : Event) → (with_event b t e).stack ≡ t.stack
  event_stack true t e = refl
  event_stack false t e = refl

  did_event : (b : Bool) (qs : List Active) (t : State) (e : Event) (m : Mark) → AreStacksSame qs t.stack →
      IsStateSame (did Q (with_event b (state_renamed qs t) (event_renamed r e)) (mark_renamed r m)) (did P (with_event b t e) m)
  did_event b qs t e m h =
      subst (λ s. IsStateSame (did Q s (mark_renamed r m)) (did P (with_event b t e) m)) (sym (event_same b qs t e))
      (did_same qs (with_event b t e) m (subst (AreStacksSame qs) (sym (event_stack b t e)) h))

  -- ---- reads

  scalar_by : {A B : Type 0} (f : A → B) (scalars : Option (List A)) (k : ℕ) → option_and_then (λ xs. slice_get xs k) (option_map (map f) scalars) ≡ option_map f (option_and_then (λ xs. slice_get xs k) scalars)
  scalar_by f None k = refl
  scalar_by f (Some xs) k = slice_get-map f xs k

  scalar_same : (cells : List (List Value)) (i k : ℕ) → scalar_in (map (map new) cells) i k ≡ option_map new (scalar_in cells i k)
  scalar_same cells i k = ap (option_and_then (λ xs. slice_get xs k)) (slice_get-map (map new) cells i) ∙ scalar_by new (slice_get cells i) k

  local_scalar_same : (id : ℕ) (ls ks : List (List (Option Value))) (i k : ℕ) → AreLocalsSame id ls ks → scalar_in ls (r.local id i) k ≡ option_map may (scalar_in ks i k)
  local_scalar_same id ls ks i k h = ap (option_and_then (λ xs. slice_get xs k)) (h i) ∙ scalar_by may (slice_get ks i) k

  abbrev content_renamed : Content → Content
  content_renamed Gone = Gone
  content_renamed Unwritten = Unwritten
  content_renamed (Holds v) = Holds (new v)

  static_same : (v : Option Value) → static_content (option_map new v) ≡ content_renamed (static_content v)
  static_same None = refl
  static_same (Some v) = refl

  content_same : (v : Option (Option Value)) → content (option_map may v) ≡ content_renamed (content v)
  content_same None = refl
  content_same (Some None) = refl
  content_same (Some (Some v)) = refl

  -- an activation that has a number is one of a function
  abbrev pub AreNumbered : ℕ → ℕ → List Active → Type 0
  AreNumbered number func [] = Unit {0}
  AreNumbered number func (b ∷ ps) = ((b.number == number) ≡ true → b.func ≡ func) × AreNumbered number func ps

  content_if : (b : Bool) (x y : Content) (z w : Content) → (b ≡ true → x ≡ content_renamed z) → y ≡ content_renamed w → (if b then x else y) ≡ content_renamed (if b then z else w)
  content_if true x y z w h k = h refl
  content_if false x y z w h k = k

  local_content_same : (qs ps : List Active) (number func local k : ℕ) → AreStacksSame qs ps → AreNumbered number func ps → local_content qs number (r.local func local) k ≡ content_renamed (local_content ps number local k)
  local_content_same [] [] number func local k h n = refl
  local_content_same (a ∷ qs) (b ∷ ps) number func local k h n =
      ap (λ (x : Active). if x.number == number then content (scalar_in x.locals (r.local func local) k) else local_content qs number (r.local func local) k) h.0.1
      ∙ content_if (b.number == number) _ _ _ _
      (λ e. ap content (ap (λ f. scalar_in h.0.0 (r.local f local) k) (sym (n.0 e)) ∙ local_scalar_same b.func h.0.0 b.locals local k h.0.2) ∙ content_same (scalar_in b.locals local k))
      (local_content_same qs ps number func local k h.1 n.1)
  local_content_same [] (b ∷ ps) number func local k h n = absurd h
  local_content_same (a ∷ qs) [] number func local k h n = absurd h

  position_same : (o : Root) (path : List Part) → cell_position Q (root_renamed r o) path ≡ cell_position P o path
  position_same o path = ap (position P.structures path) (object_same r devices funcs P renamed o)

  -- what a step touches is there as its function says
  abbrev pub IsTouched : List Active → Root → Type 0
  IsTouched ps (root.Static i) = Unit {0}
  IsTouched ps (root.Auto number func local) = AreNumbered number func ps

  content_at_same : (qs : List Active) (t : State) (o : Root) (k : ℕ) → AreStacksSame qs t.stack → IsTouched t.stack o → content_at (state_renamed qs t) (root_renamed r o) k ≡ content_renamed (content_at t o k)
  content_at_same qs t (root.Static i) k h n = ap static_content (scalar_same t.memory.statics i k) ∙ static_same (scalar_in t.memory.statics i k)
  content_at_same qs t (root.Auto number func local) k h n = local_content_same qs t.stack number func local k h n

  pub state_if : (b : Bool) (w x y z : State) → IsStateSame w y → IsStateSame x z → IsStateSame (if b then w else x) (if b then y else z)
  state_if true w x y z h k = h
  state_if false w x y z h k = k

  has_read_same : (qs : List Active) (t : State) (at : Cell) (manner : Manner) (c : Content) → AreStacksSame qs t.stack →
      IsStateSame (has_read Q (state_renamed qs t) (cell_renamed r at) manner (content_renamed c)) (has_read P t at manner c)
  has_read_same qs t at manner Gone h = stopped_same qs t Trap h
  has_read_same qs t at manner Unwritten h = state_if manner.may_be_bad _ _ _ _ (did_same qs t (Gave None) h) (stopped_same qs t Trap h)
  has_read_same qs t at manner (Holds v) h = did_event manner.is_event qs t (event.Read at v) (Gave (Some v)) h

  input_same : (qs : List Active) (t : State) (d : ℕ) (device : Option Device) (inputs : List ℤ) → AreStacksSame qs t.stack →
      IsStateSame (input_read Q (state_renamed qs t) (r.device d) device inputs) (input_read P t d device inputs)
  input_same qs t d None inputs h = stopped_same qs t Trap h
  input_same qs t d (Some device) [] h = stopped_same qs t Starved h
  input_same qs t d (Some device) (n ∷ inputs) h =
      did_event true qs (with_new_inputs t inputs) (event.Read (cell.Device d) (Int (converted n device.int P.target))) (Gave (Some (Int (converted n device.int P.target)))) h
    where
      with_new_inputs : State → List ℤ → State
      with_new_inputs t inputs = record { memory = record { flag = t.memory.flag; statics = t.memory.statics; inputs = inputs; trace = t.memory.trace }; stack = t.stack; opened = t.opened; end = t.end }

  abbrev pub IsCellTouched : List Active → Cell → Type 0
  IsCellTouched ps (cell.Device d) = Unit {0}
  IsCellTouched ps (cell.At o path) = IsTouched ps o

  read_same : (qs : List Active) (t : State) (at : Cell) (manner : Manner) → AreStacksSame qs t.stack → IsCellTouched t.stack at → IsStateSame (read Q (state_renamed qs t) (cell_renamed r at) manner) (read P t at manner)
  read_same qs t (cell.Device d) manner h n =
      subst (λ x. IsStateSame (input_read Q (state_renamed qs t) (r.device d) x t.memory.inputs) (read P t (cell.Device d) manner)) (sym (renamed.devices_there d)) (input_same qs t d (slice_get P.devices d) t.memory.inputs h)
  read_same qs t (cell.At o path) manner h n =
      subst (λ x. IsStateSame (has_read Q (state_renamed qs t) (cell_renamed r (cell.At o path)) manner x) (read P t (cell.At o path) manner))
      (sym (ap (content_at (state_renamed qs t) (root_renamed r o)) (position_same o path) ∙ content_at_same qs t o (cell_position P o path) h n))
      (has_read_same qs t (cell.At o path) manner (content_at t o (cell_position P o path)) h)

  -- ---- writes

  set_by : {A B : Type 0} (f : A → B) (cells : List (List A)) (i k : ℕ) (v : A) (x : Option (List A)) →
      set_scalar (map (map f) cells) i k (f v) (option_map (map f) x) ≡ map (map f) (set_scalar cells i k v x)
  set_by f cells i k v None = refl
  set_by f cells i k v (Some xs) =
      ap (slice_set (map (map f) cells) i) (sym (map-set f xs k v)) ∙ sym (map-set (map f) cells i (slice_set xs k v))

  statics_same : (cells : List (List Value)) (i k : ℕ) (v : Value) → with_scalar (map (map new) cells) i k (new v) ≡ map (map new) (with_scalar cells i k v)
  statics_same cells i k v = ap (set_scalar (map (map new) cells) i k (new v)) (slice_get-map (map new) cells i) ∙ set_by new cells i k v (slice_get cells i)

  set_map : (xs : Option (List (Option Value))) (k : ℕ) (v : Value) → option_map (λ s. slice_set s k (Some (new v))) (option_map (map may) xs) ≡ option_map (map may) (option_map (λ s. slice_set s k (Some v)) xs)
  set_map None k v = refl
  set_map (Some xs) k v = ap (λ l. Some l) (sym (map-set may xs k (Some v)))

  locals_written : (id : ℕ) (ls ks : List (List (Option Value))) (local k : ℕ) (v : Value) → AreLocalsSame id ls ks → AreLocalsSame id (with_scalar ls (r.local id local) k (Some (new v))) (with_scalar ks local k (Some v))
  locals_written id ls ks local k v h i = by (eqb_tells local i)
    where
      by : (((local == i) ≡ true) × (local ≡ i)) ⊎ (((local == i) ≡ false) × (local ≢ i)) → slice_get (with_scalar ls (r.local id local) k (Some (new v))) (r.local id i) ≡ option_map (map may) (slice_get (with_scalar ks local k (Some v)) i)
      by (inl (t, same)) =
          ap (λ j. slice_get (with_scalar ls (r.local id local) k (Some (new v))) (r.local id j)) (sym same)
          ∙ written_here ls (r.local id local) k (Some (new v))
          ∙ ap (option_map (λ s. slice_set s k (Some (new v)))) (h local)
          ∙ set_map (slice_get ks local) k v
          ∙ ap (option_map (map may)) (sym (written_here ks local k (Some v)) ∙ ap (slice_get (with_scalar ks local k (Some v))) same)
      by (inr (f, apart)) =
          elsewhere ls (r.local id local) (r.local id i) k (Some (new v)) (λ e. apart (renamed.apart id local i e))
          ∙ h i
          ∙ ap (option_map (map may)) (sym (elsewhere ks local i k (Some v) apart))

  open_same : (qs ps : List Active) (number : ℕ) → AreStacksSame qs ps → is_open qs number ≡ is_open ps number
  open_same [] [] number h = refl
  open_same (a ∷ qs) (b ∷ ps) number h = (λ i. if (h.0.1 i).number == number then true else open_same qs ps number h.1 i)
  open_same [] (b ∷ ps) number h = absurd h
  open_same (a ∷ qs) [] number h = absurd h

  pub stacks_if : (x : Bool) (a c : Active) (qs rs : List Active) (b d : Active) (ps os : List Active) → (x ≡ true → AreStacksSame (a ∷ qs) (b ∷ ps)) → (x ≡ false → AreStacksSame (c ∷ rs) (d ∷ os)) → AreStacksSame (if x then a ∷ qs else c ∷ rs) (if x then b ∷ ps else d ∷ os)
  stacks_if true a c qs rs b d ps os h k = h refl
  stacks_if false a c qs rs b d ps os h k = k refl

  with_local_same : (qs ps : List Active) (number func local k : ℕ) (v : Value) → AreStacksSame qs ps → AreNumbered number func ps → AreStacksSame (with_local qs number (r.local func local) k (new v)) (with_local ps number local k v)
  with_local_same [] [] number func local k v h n = tt
  with_local_same (a ∷ qs) (b ∷ ps) number func local k v h n =
      subst (λ (x : Active). AreStacksSame (with_local (x ∷ qs) number (r.local func local) k (new v)) (with_local (b ∷ ps) number local k v)) (sym h.0.1)
      (stacks_if (b.number == number) (with_locals (act h.0.0 b) (with_scalar h.0.0 (r.local func local) k (Some (new v)))) (act h.0.0 b) qs (with_local qs number (r.local func local) k (new v)) (with_locals b (with_scalar b.locals local k (Some v))) b ps (with_local ps number local k v)
      (λ e. (
        (
          with_scalar h.0.0 (r.local func local) k (Some (new v)),
          refl,
          subst (λ f. AreLocalsSame b.func (with_scalar h.0.0 (r.local f local) k (Some (new v))) (with_scalar b.locals local k (Some v))) (n.0 e) (locals_written b.func h.0.0 b.locals local k v h.0.2),
        ),
        h.1,
      ))
      (λ e. ((h.0.0, refl, h.0.2), with_local_same qs ps number func local k v h.1 n.1)))
  with_local_same [] (b ∷ ps) number func local k v h n = absurd h
  with_local_same (a ∷ qs) [] number func local k v h n = absurd h

  written_if : (b : Bool) (at : Cell) (is_event : Bool) (v : Value) (qs : List Active) (t : State) (rs : List Active) (u : State) → AreStacksSame qs t.stack → AreStacksSame rs u.stack →
      IsStateSame (has_written Q (cell_renamed r at) is_event (new v) (state_renamed qs t) (if b then Some (state_renamed rs u) else None)) (has_written P at is_event v t (if b then Some u else None))
  written_if true at is_event v qs t rs u h k = did_event is_event rs u (event.Write at v) Did k
  written_if false at is_event v qs t rs u h k = stopped_same qs t Trap h

  write_at : (qs : List Active) (t : State) (o : Root) (path : List Part) (is_event : Bool) (v : Value) (k : ℕ) → AreStacksSame qs t.stack → IsTouched t.stack o →
      IsStateSame (has_written Q (cell_renamed r (cell.At o path)) is_event (new v) (state_renamed qs t) (written (state_renamed qs t) (root_renamed r o) k (new v))) (has_written P (cell.At o path) is_event v t (written t o k v))
  write_at qs t (root.Static i) path is_event v k h n =
      subst (λ x. IsStateSame (has_written Q (cell.At (root.Static i) path) is_event (new v) (state_renamed qs t) (Some (with_statics (state_renamed qs t) x))) (has_written P (cell.At (root.Static i) path) is_event v t (written t (root.Static i) k v)))
      (sym (statics_same t.memory.statics i k v))
      (did_event is_event qs (with_statics t (with_scalar t.memory.statics i k v)) (event.Write (cell.At (root.Static i) path) v) Did h)
  write_at qs t (root.Auto number func local) path is_event v k h n =
      subst (λ b. IsStateSame (has_written Q (cell_renamed r (cell.At (root.Auto number func local) path)) is_event (new v) (state_renamed qs t) (if b then Some (with_stack (state_renamed qs t) (with_local qs number (r.local func local) k (new v))) else None))
      (has_written P (cell.At (root.Auto number func local) path) is_event v t (written t (root.Auto number func local) k v))) (sym (open_same qs t.stack number h))
      (written_if (is_open t.stack number) (cell.At (root.Auto number func local) path) is_event v qs t (with_local qs number (r.local func local) k (new v)) (with_stack t (with_local t.stack number local k v)) h (with_local_same qs t.stack number func local k v h n))

  write_same : (qs : List Active) (t : State) (at : Cell) (is_event : Bool) (v : Value) → AreStacksSame qs t.stack → IsCellTouched t.stack at → IsStateSame (write Q (state_renamed qs t) (cell_renamed r at) is_event (new v)) (write P t at is_event v)
  write_same qs t (cell.Device d) is_event v h n = did_event true qs t (event.Write (cell.Device d) v) Did h
  write_same qs t (cell.At o path) is_event v h n =
      subst (λ k. IsStateSame (has_written Q (cell_renamed r (cell.At o path)) is_event (new v) (state_renamed qs t) (written (state_renamed qs t) (root_renamed r o) k (new v))) (write P t (cell.At o path) is_event v)) (sym (position_same o path))
      (write_at qs t o path is_event v (cell_position P o path) h n)

  -- ---- calls

  none_renamed : (n : ℕ) → replicate n None ≡ map may (replicate n None)
  none_renamed zero = refl
  none_renamed (suc n) = ap (λ (l : List (Option Value)). None ∷ l) (none_renamed n)

  local_with_same : (v : Option Value) (t : CType) → local_with P.structures (option_map new v) t ≡ map may (local_with P.structures v t)
  local_with_same None t = none_renamed (length (zeros P.structures t))
  local_with_same (Some v) t = refl

  locals_at : (p : Program) (args : List Value) (ls : List Named) (i : ℕ) → slice_get (locals_with p args ls) i ≡ option_map (λ t. local_with p.structures (slice_get args i) t) (option_map (λ l. l.1) (slice_get ls i))
  locals_at p args [] i = refl
  locals_at p [] (l ∷ ls) zero = refl
  locals_at p [] (l ∷ ls) (suc i) = locals_at p [] ls i
  locals_at p (v ∷ args) (l ∷ ls) zero = refl
  locals_at p (v ∷ args) (l ∷ ls) (suc i) = locals_at p args ls i

  some_same : (v : Option Value) (t : Option CType) → option_map (λ t. local_with P.structures (option_map new v) t) t ≡ option_map (map may) (option_map (λ t. local_with P.structures v t) t)
  some_same v None = refl
  some_same v (Some t) = ap (λ (l : List (Option Value)). Some l) (local_with_same v t)

  past_end : {A : Type 0} (xs : List A) (i : ℕ) → length xs ≤ i → slice_get xs i ≡ None
  past_end [] i h = refl
  past_end (x ∷ xs) zero h = absurd (omega (arith, h))
  past_end (x ∷ xs) (suc i) h = past_end xs i (omega (arith, h))

  -- parameters have their numbers, and other locals have none of theirs
  arguments_same : (id : ℕ) (g f : Func) → IsFuncRenamed (r.local id) r.device g f → (args : List Value) → length args ≡ f.params → (i : ℕ) → slice_get (map new args) (r.local id i) ≡ option_map new (slice_get args i)
  arguments_same id g f a args n i = by (cases_lt i f.params)
    where
      cases_lt : (i n : ℕ) → (i < n) ⊎ (n ≤ i)
      cases_lt i zero = inr (omega arith)
      cases_lt zero (suc n) = inl (omega arith)
      cases_lt (suc i) (suc n) = by_less (cases_lt i n)
        where
          by_less : (i < n) ⊎ (n ≤ i) → (suc i < suc n) ⊎ (suc n ≤ suc i)
          by_less (inl h) = inl (omega (arith, h))
          by_less (inr h) = inr (omega (arith, h))

      by : (i < f.params) ⊎ (f.params ≤ i) → slice_get (map new args) (r.local id i) ≡ option_map new (slice_get args i)
      by (inl h) = ap (slice_get (map new args)) (a.first i h) ∙ slice_get-map new args i
      by (inr h) =
          past_end (map new args) (r.local id i) (above (cases_lt (r.local id i) f.params)) ∙ ap (option_map new) (sym (past_end args i (omega (arith, n, h))))
        where
          above : (r.local id i < f.params) ⊎ (f.params ≤ r.local id i) → length (map new args) ≤ r.local id i
          above (inl k) = let e = renamed.apart id (r.local id i) i (a.first (r.local id i) k) in absurd (omega (arith, e, k, h))
          above (inr k) = let e = length-map args new in omega (arith, e, k, n)

  opened_locals : (id : ℕ) (g f : Func) → IsFuncRenamed (r.local id) r.device g f → (args : List Value) → length args ≡ f.params → AreLocalsSame id (locals_with Q (map new args) g.locals) (locals_with P args f.locals)
  opened_locals id g f a args n i =
      locals_at Q (map new args) g.locals (r.local id i)
      ∙ (λ j. option_map (λ t. local_with P.structures (arguments_same id g f a args n i j) t) (a.types i j))
      ∙ some_same (slice_get args i) (option_map (λ l. l.1) (slice_get f.locals i))
      ∙ ap (option_map (map may)) (sym (locals_at P args f.locals i))

  abbrev before : ℕ → ℕ → Bool → List (List (Option Value)) → Active
  before number id handler ls = record { number = number; func = id; handler = handler; locals = ls; here = level [] 0 First; around = []; marks = [] }

  pub activation_same : (number id : ℕ) (handler : Bool) (args : List Value) (g f : Func) → IsFuncRenamed (r.local id) r.device g f → length args ≡ f.params →
      IsActiveSame (activation Q number id handler (map new args) g) (activation P number id handler args f)
  activation_same number id handler args g f a n =
      let ls = locals_with Q (map new args) g.locals in
      let b = before number id handler (locals_with P args f.locals) in (
        ls,
        ap (λ (l : List Stmt). goes_to Q (before number id handler ls) (close l 0 [])) a.body
            ∙ ap (goes_to Q (before number id handler ls)) (close_same (r.local id) r.device f.body 0 [])
            ∙ goes_to_same r devices funcs P renamed ls b (close f.body 0 []),
        opened_locals id g f a args n,
      )

  pub opened_same : (qs : List Active) (t : State) (id : ℕ) (handler : Bool) (args : List Value) (g f : Func) → AreStacksSame qs t.stack → IsFuncRenamed (r.local id) r.device g f → length args ≡ f.params →
      IsStateSame (opened Q (state_renamed qs t) id handler (map new args) g) (opened P t id handler args f)
  opened_same qs t id handler args g f h a n = (activation Q t.opened id handler (map new args) g ∷ qs, refl, (activation_same t.opened id handler args g f a n, h))

  opened_by : (qs : List Active) (t : State) (id : ℕ) (args : List Value) (x y : Option Func) → AreStacksSame qs t.stack → AreFuncsRenamed (r.local id) r.device x y → ((f : Func) → y ≡ Some f → length args ≡ f.params) →
      IsStateSame (opened_if Q (state_renamed qs t) id (map new args) x) (opened_if P t id args y)
  opened_by qs t id args None None h a n = stopped_same qs t Trap h
  opened_by qs t id args (Some g) (Some f) h a n = opened_same qs t id false args g f h a (n f refl)
  opened_by qs t id args None (Some f) h a n = absurd a
  opened_by qs t id args (Some g) None h a n = absurd a

  -- a function that is called takes as many arguments
  abbrev pub TakesArguments : Address → List Value → Type 0
  TakesArguments address.Null args = Unit {0}
  TakesArguments (address.Func id) args = (f : Func) → slice_get P.funcs id ≡ Some f → length args ≡ f.params
  TakesArguments (address.At object path index count) args = Unit {0}

  call_same : (qs : List Active) (t : State) (callee : Address) (args : List Value) → AreStacksSame qs t.stack → TakesArguments callee args → IsStateSame (call Q (state_renamed qs t) (address_renamed r callee) (map new args)) (call P t callee args)
  call_same qs t address.Null args h n = stopped_same qs t Trap h
  call_same qs t (address.Func id) args h n = opened_by qs t id args (slice_get funcs id) (slice_get P.funcs id) h (renamed.funcs_there id) n
  call_same qs t (address.At object path index count) args h n = stopped_same qs t Trap h

  -- ---- returns

  gives_same : (id : ℕ) → gives_nothing (slice_get funcs id) ≡ gives_nothing (slice_get P.funcs id)
  gives_same id = func_same r devices funcs P renamed gives_nothing id (λ x y a. λ i. is_void (out-Sig (a.sig i)).result)

  mark_if : (b : Bool) (v : Value) → (if b then Did else Gave (Some (new v))) ≡ mark_renamed r (if b then Did else Gave (Some v))
  mark_if true v = refl
  mark_if false v = refl

  return_mark_same : (id : ℕ) (v : Value) → return_mark Q id (new v) ≡ mark_renamed r (return_mark P id v)
  return_mark_same id v = ap (λ (b : Bool). if b then Did else Gave (Some (new v))) (gives_same id) ∙ mark_if (gives_nothing (slice_get P.funcs id)) v

  returned_same : (qs : List Active) (ps : List Active) (ls : List (List (Option Value))) (b : Active) (t : State) (v : Value) → AreStacksSame qs ps → IsStateSame (returned Q (state_renamed (act ls b ∷ qs) t) (act ls b) qs (new v)) (returned P t b ps v)
  returned_same [] [] ls b t v h = ([], ap (λ n. stopped (with_stack (state_renamed [] t) []) (Exit n)) (number_in_kept r devices funcs P renamed v), tt)
  returned_same (c ∷ qs) (d ∷ ps) ls b t v h =
      state_if b.handler (with_flag (with_stack (state_renamed (act ls b ∷ c ∷ qs) t) (c ∷ qs)) true) (with_stack (state_renamed (act ls b ∷ c ∷ qs) t) (marked Q c (return_mark Q b.func (new v)) ∷ qs))
      (with_flag (with_stack t (d ∷ ps)) true) (with_stack t (marked P d (return_mark P b.func v) ∷ ps))
      (c ∷ qs, refl, h)
      (marked Q c (return_mark Q b.func (new v)) ∷ qs, refl, (subst (λ m. IsActiveSame (marked Q c m) (marked P d (return_mark P b.func v))) (sym (return_mark_same b.func v)) (marked_active c d (return_mark P b.func v) h.0), h.1))
  returned_same [] (d ∷ ps) ls b t v h = absurd h
  returned_same (c ∷ qs) [] ls b t v h = absurd h

  fallen_same : (qs ps : List Active) (ls : List (List (Option Value))) (b : Active) (t : State) → AreStacksSame qs ps → AreStacksSame (act ls b ∷ qs) t.stack → IsStateSame (fallen Q (state_renamed (act ls b ∷ qs) t) (act ls b) qs) (fallen P t b ps)
  fallen_same qs ps ls b t h k =
      subst (λ x. IsStateSame (if x || (b.func == P.main) then returned Q (state_renamed (act ls b ∷ qs) t) (act ls b) qs no_value else stopped (state_renamed (act ls b ∷ qs) t) Trap) (fallen P t b ps)) (sym (gives_same b.func))
      (state_if (gives_nothing (slice_get P.funcs b.func) || (b.func == P.main)) _ _ _ _ (returned_same qs ps ls b t no_value h) (stopped_same (act ls b ∷ qs) t Trap k))

  -- ---- steps of the running activation

  -- what an action needs
  abbrev pub IsActionFit : List Active → Action → Type 0
  IsActionFit ps (Read at manner) = IsCellTouched ps at
  IsActionFit ps (Write at is_event v) = IsCellTouched ps at
  IsActionFit ps (Choose b) = Unit {0}
  IsActionFit ps (Call callee args) = TakesArguments callee args
  IsActionFit ps (Flag on) = Unit {0}
  IsActionFit ps Save = Unit {0}

  perform_same : (qs : List Active) (t : State) (action : Action) → AreStacksSame qs t.stack → IsActionFit t.stack action → IsStateSame (perform Q (state_renamed qs t) (action_renamed r action)) (perform P t action)
  perform_same qs t (Read at manner) h n = read_same qs t at manner h n
  perform_same qs t (Write at is_event v) h n = write_same qs t at is_event v h n
  perform_same qs t (Choose b) h n = did_same qs t (Chose b) h
  perform_same qs t (Call callee args) h n = call_same qs t callee args h n
  perform_same qs t (Flag on) h n = did_same qs (with_flag t on) Did h
  perform_same qs t Save h n = did_same qs (with_flag t false) (Gave (Some (Int (one_if t.memory.flag)))) h

  return_there : (id : ℕ) (x : is.Stmt-F Stmt Case) → is_return (layer_there (r.local id) r.device x) ≡ is_return x
  return_there id (is.Do e) = refl
  return_there id (is.If e these those) = refl
  return_there id (is.While e body) = refl
  return_there id (is.DoWhile body e) = refl
  return_there id (is.For first test again body) = refl
  return_there id (is.Switch e cases) = refl
  return_there id is.Break = refl
  return_there id is.Continue = refl
  return_there id (is.Return e) = refl
  return_there id is.Empty = refl
  return_there id (is.Block body) = refl

  module _ (qs ps : List Active) (ls : List (List (Option Value))) (b : Active) (t : State) (top : t.stack ≡ b ∷ ps) (h : AreStacksSame qs ps) (k : AreLocalsSame b.func ls b.locals) where
    abbrev pub whole : AreStacksSame (act ls b ∷ qs) (b ∷ ps)
    whole = ((ls, refl, k), h)

    abbrev pub all : AreStacksSame (act ls b ∷ qs) t.stack
    all = subst (AreStacksSame (act ls b ∷ qs)) (sym top) whole

    abbrev pub x1 : is.Stmt-F Stmt Case → is.Stmt-F Stmt Case
    x1 x = layer_there (r.local b.func) r.device x

    gone_same : (x : is.Stmt-F Stmt Case) (v : Value) → IsActiveSame (goes_to Q (act ls b) (next_place (x1 x) (act ls b) (new v))) (goes_to P b (next_place x b v))
    gone_same x v = (ls, ap (goes_to Q (act ls b)) (next_place_same r devices funcs P renamed ls b x v) ∙ goes_to_same r devices funcs P renamed ls b (next_place x b v), k)

    done_same : (x : is.Stmt-F Stmt Case) (v : Value) → IsStateSame (done Q (x1 x) (state_renamed (act ls b ∷ qs) t) (act ls b) qs (new v)) (done P x t b ps v)
    done_same x v =
        subst (λ c. IsStateSame (if c then returned Q (state_renamed (act ls b ∷ qs) t) (act ls b) qs (new v) else with_stack (state_renamed (act ls b ∷ qs) t) (goes_to Q (act ls b) (next_place (x1 x) (act ls b) (new v)) ∷ qs)) (done P x t b ps v)) (sym (return_there b.func x))
        (state_if (is_return x) _ _ _ _ (returned_same qs ps ls b t v h) (goes_to Q (act ls b) (next_place (x1 x) (act ls b) (new v)) ∷ qs, refl, (gone_same x v, h)))

    stepped_same : (x : is.Stmt-F Stmt Case) (q : Progress (Option Value)) → ((action : Action) → q ≡ Waits action → IsActionFit t.stack action) →
        IsStateSame (stepped Q (x1 x) (state_renamed (act ls b ∷ qs) t) (act ls b) qs (progress_renamed r may q)) (stepped P x t b ps q)
    stepped_same x (Waits action) n = perform_same (act ls b ∷ qs) t action all (n action refl)
    stepped_same x (Traps ms) n = stopped_same (act ls b ∷ qs) t Trap all
    stepped_same x (Known None ms) n = stopped_same (act ls b ∷ qs) t Trap all
    stepped_same x (Known (Some v) ms) n = done_same x v

    pub step_same : (l : List Stmt) → ((s : Stmt) (rest : List Stmt) → l ≡ s ∷ rest → (action : Action) → progress_of P b (worked (out-Stmt s) b.here.phase) ≡ Waits action → IsActionFit t.stack action) →
        IsStateSame (active_step Q (list_there (r.local b.func) r.device l) (state_renamed (act ls b ∷ qs) t) (act ls b) qs) (active_step P l t b ps)
    step_same [] n = fallen_same qs ps ls b t h all
    step_same (s ∷ rest) n =
        subst (λ y. IsStateSame (stepped Q y (state_renamed (act ls b ∷ qs) t) (act ls b) qs (progress_of Q (act ls b) (worked y b.here.phase))) (active_step P (s ∷ rest) t b ps)) (sym (out_there (r.local b.func) r.device s))
        (subst (λ y. IsStateSame (stepped Q (x1 (out-Stmt s)) (state_renamed (act ls b ∷ qs) t) (act ls b) qs y) (active_step P (s ∷ rest) t b ps))
        (sym (ap (progress_of Q (act ls b)) (worked_same (r.local b.func) r.device (out-Stmt s) b.here.phase) ∙ progress_same r devices funcs P renamed b.number b.func b.marks (worked (out-Stmt s) b.here.phase)))
        (stepped_same (out-Stmt s) (progress_of P b (worked (out-Stmt s) b.here.phase)) (n s rest refl)))
