-- With more locals in its functions a program spells the events of a typed one's states alike: they name none of the new ones.
use Rattle.std.proofs.Common.{◌≡◌, ℕ, ℤ, ◌==◌, ◌||◌, Bool, true, false, List, [], ◌∷◌, ◌++◌, length, Option, Some, None, option_map, slice_get, refl, ap, sym, ◌∙◌, subst, if◌then◌else◌}
use Rattle.cc_states.specs.CcSyntax.Types.{Named}
use Rattle.std.proofs.lemmas.Bool.{eqb-true, ltb-false}
use Rattle.std.proofs.lemmas.List.{map-append}
use Rattle.std.proofs.lemmas.Option.{slice_get_past}
use Rattle.std.specs.Prelude.{is_some, nat_lt}
use Rattle.cc_states.specs.CcCells.Cells.{scalar_in}
use Rattle.cc_states.specs.CcEval.Context.{local_type, object_type}
use Rattle.cc_states.specs.CcEval.declared.action.Action.{Action}
use Rattle.cc_states.specs.CcEval.declared.action.Action.TheVariants.{Read, Write, Choose, Call, Flag, Save}
use Rattle.cc_states.specs.CcEval.declared.action.Manner.{Manner}
use Rattle.cc_states.specs.CcEval.declared.mark.Mark.TheVariants.{Gave}
use Rattle.cc_states.specs.CcEval.Progress.{Progress, Known, Waits, Traps, no_value}
use Rattle.cc_program.specs.CcNum.Integers.{converted}
use Rattle.cc_program.specs.declared.func.Func.{Func}
use Rattle.cc_program.specs.declared.object.Device.{Device}
use Rattle.cc_program.specs.declared.program.Program.{Program}
use Rattle.cc_program.specs.declared.stmt.Case.{Case}
use Rattle.cc_program.specs.declared.stmt.Stmt.{Stmt, out-Stmt}
use Rattle.cc_program.specs.declared.stmt.Stmt.TheOpen as is
use Rattle.cc_program.specs.declared.types.CType.{CType}
use Rattle.cc_program.specs.declared.types.Shape.{Shape, out-Shape}
use Rattle.cc_program.specs.declared.types.Shape.TheOpen as shape
use Rattle.cc_program.specs.declared.types.Sig.{Sig}
use Rattle.cc_program.specs.declared.value.Address.{Address}
use Rattle.cc_program.specs.declared.value.Address.TheVariants as address
use Rattle.cc_program.specs.declared.value.Cell.{Cell}
use Rattle.cc_program.specs.declared.value.Cell.TheVariants as cell
use Rattle.cc_program.specs.declared.value.Part.{Part}
use Rattle.cc_program.specs.declared.value.Part.TheVariants as part
use Rattle.cc_program.specs.declared.value.Root.{Root}
use Rattle.cc_program.specs.declared.value.Root.TheVariants as root
use Rattle.cc_program.specs.declared.value.Value.{Value}
use Rattle.cc_program.specs.declared.value.Value.TheVariants as value
use Rattle.cc_states.proofs.StateLemmas.{asked, same_opening, static_there, local_in as local_typed}
use Rattle.cc_states.specs.Answers.{IsAction}
use Rattle.cc_states.specs.States.{AreStatics, worked_at, IsActive, AreActive, IsState}
use Rattle.cc_states.specs.Typed.{cell_type, IsOpened, IsAddress, HasType, MayHave, place_in}
use Rattle.cc_states.specs.CcSteps.declared.content.Content.{Content}
use Rattle.cc_states.specs.CcSteps.declared.content.Content.TheVariants.{Gone, Unwritten, Holds}
use Rattle.cc_states.specs.CcSteps.declared.event.End.TheVariants.{Trap}
use Rattle.cc_states.specs.CcSteps.declared.event.Event.{Event}
use Rattle.cc_states.specs.CcSteps.declared.event.Event.TheVariants as event
use Rattle.cc_states.specs.CcSteps.Access.{content, local_content, is_open, with_local}
use Rattle.cc_states.specs.CcSteps.Rows.{Name, Into, Spelled, Static, Auto, ToFunction as SpelledFunction, ToObject as SpelledObject, Row, Reads, Writes, Enters, step_in, steps, func_name, local_in, object_spelled, cell_spelled, address_spelled, value_spelled, row_of, rows_of}
use Rattle.cc_states.specs.CcSteps.State.{Active, State}
use Rattle.cc_states.specs.CcSteps.Step.{stopped, with_stack, with_flag, marked, return_mark, goes_to, next_place, with_event, static_content, content_at, gives_nothing, did, cell_position, has_read, input_read, read, has_written, write, opened_if, call, returned, fallen, is_return, done, stepped, perform, active_step, progress_of, worked, proceed}
use Rattle.cc_states.specs.CcSteps.Turn.{is_going, entering, turn_by, turn}
use Rattle.cc_states.specs.CcSyntax.Expressions.{of_one}
use Rattle.cc_states.specs.CcSyntax.Initial.{place_at, step_into, names}
use Rattle.cc_states.specs.CcSyntax.Values.{ValueType, NoValue, Integer, ToObject, ToFunction, PlaceType, DevicePlace, ObjectPlace, FunctionPlace, read_from, scalar_shape, pointer_shape}
use Rattle.cc_meaning_simulations.specs.Bodies.{all_extended, extended}
use Rattle.cc_meaning_simulations.proofs.MoreLocals.{funcs_same, get_before}

abbrev There : {A : Type 0} → Option A → Type 0
There x = is_some x ≡ true

first_there : {A B : Type 0} (x : Option A) (f : A → Option B) → There (of_one x f) → There x
first_there None f h = h
first_there (Some a) f h = refl

below_of : {A B : Type 0} (g : A → B) (xs : List A) (k : ℕ) → There (option_map g (slice_get xs k)) → nat_lt k (length xs) ≡ true
below_of g xs k h = by_lt (nat_lt k (length xs)) refl
  where
    by_lt : (b : Bool) → nat_lt k (length xs) ≡ b → nat_lt k (length xs) ≡ true
    by_lt true e = e
    by_lt false e = (let z : false ≡ true = sym (ap (λ (x : Option _). is_some (option_map g x)) (slice_get_past xs k (ltb-false k (length xs) e))) ∙ h in absurd (cc))

names_there : (to : ValueType) (path : List Part) (index count : ℕ) (x : Option PlaceType) → names to path index count x ≡ true → There x
names_there to path index count None h = absurd (cc)
names_there to path index count (Some a) h = refl

-- ---- a cell holds no void

abbrev Real : ValueType → Type 0
Real NoValue = ⊥
Real (Integer t) = Unit {0}
Real (ToObject constant volatile t) = Unit {0}
Real (ToFunction sig) = Unit {0}

abbrev RealIf : Option ValueType → Type 0
RealIf None = Unit {0}
RealIf (Some w) = Real w

pointer_real : (t : CType) (x : shape.Shape-F Shape CType Sig) → Real (pointer_shape t x)
pointer_real t shape.Void = tt
pointer_real t (shape.Int i) = tt
pointer_real t (shape.Pointer to) = tt
pointer_real t (shape.Array of n) = tt
pointer_real t (shape.Struct s) = tt
pointer_real t (shape.Func sig) = tt

shape_real : (x : shape.Shape-F Shape CType Sig) → RealIf (scalar_shape x)
shape_real (shape.Int t) = tt
shape_real (shape.Pointer to) = pointer_real to (out-Shape to.shape)
shape_real shape.Void = tt
shape_real (shape.Array of n) = tt
shape_real (shape.Struct s) = tt
shape_real (shape.Func sig) = tt

read_real : (x : Option PlaceType) → RealIf (of_one x read_from)
read_real None = tt
read_real (Some (DevicePlace constant t)) = tt
read_real (Some (ObjectPlace constant volatile t)) = shape_real (out-Shape t.shape)
read_real (Some (FunctionPlace sig)) = tt

device_real : (x : Option Device) → RealIf (option_map (λ d. Integer d.int) x)
device_real None = tt
device_real (Some d) = tt

cell_real : (p : Program) (c : Cell) (w : ValueType) → cell_type p c ≡ Some w → Real w
cell_real p (cell.Device d) w h = subst RealIf h (device_real (slice_get p.devices d))
cell_real p (cell.At object path) w h = subst RealIf h (read_real (place_in p object path))

module _ (more : Func → List Named) (new : Func → List Stmt) (P : Program) where
  abbrev Q : Program
  Q = all_extended more new P

  name_same : (f : ℕ) → func_name Q f ≡ func_name P f
  name_same f = ap (option_map _) (funcs_same more new P f) ∙ by_func (slice_get P.funcs f)
    where
      by_func : (f : Option Func) → option_map (λ f. f.name) (option_map (extended more new) f) ≡ option_map (λ f. f.name) f
      by_func None = refl
      by_func (Some f) = refl

  step_same : (s : Part) (a : PlaceType) → step_in Q s a ≡ step_in P s a
  step_same (part.Member m) (ObjectPlace constant volatile t) = refl
  step_same (part.Member m) (DevicePlace constant t) = refl
  step_same (part.Member m) (FunctionPlace sig) = refl
  step_same (part.Index i) a = refl

  steps_same : (path : List Part) (a : Option PlaceType) → steps Q path a ≡ steps P path a
  steps_same [] a = refl
  steps_same (s ∷ path) None = refl
  steps_same (s ∷ path) (Some a) =
      ap (λ (x : Into). x ∷ steps Q path (step_into P.structures s a)) (step_same s a) ∙ ap (λ (l : List Into). step_in P s a ∷ l) (steps_same path (step_into P.structures s a))

  -- of an object that has a type
  type_in : (local : ℕ) (g : Option Func) → There (local_type local g) → local_type local (option_map (extended more new) g) ≡ local_type local g
  type_in local None h = refl
  type_in local (Some f) h = ap (option_map _) (get_before f.locals (more f) local (below_of _ f.locals local h))

  type_same : (r : Root) → There (object_type P r) → object_type Q r ≡ object_type P r
  type_same (root.Static i) h = refl
  type_same (root.Auto number f local) h = ap (local_type local) (funcs_same more new P f) ∙ type_in local (slice_get P.funcs f) h

  local_name_in : (local : ℕ) (g : Option Func) → There (local_type local g) → local_in P local (option_map (extended more new) g) ≡ local_in P local g
  local_name_in local None h = refl
  local_name_in local (Some f) h = ap (option_map _) (get_before f.locals (more f) local (below_of _ f.locals local h))

  path_same : (path : List Part) (r : Root) → There (object_type P r) → steps Q path (object_type Q r) ≡ steps P path (object_type P r)
  path_same path r h = steps_same path (object_type Q r) ∙ ap (steps P path) (type_same r h)

  spelled_same : (r : Root) (path : List Part) → There (object_type P r) → object_spelled Q r path ≡ object_spelled P r path
  spelled_same (root.Static i) path h = ap (Static (option_map (λ o. o.name) (slice_get P.objects i))) (path_same path (root.Static i) h)
  spelled_same (root.Auto number f local) path h =
      ap (λ (n : Name). Auto n (func_name Q f) (steps Q path (object_type Q (root.Auto number f local)))) (ap (local_in P local) (funcs_same more new P f) ∙ local_name_in local (slice_get P.funcs f) h)
      ∙ ap (λ (n : Name). Auto (local_in P local (slice_get P.funcs f)) n (steps Q path (object_type Q (root.Auto number f local)))) (name_same f)
      ∙ ap (Auto (local_in P local (slice_get P.funcs f)) (func_name P f)) (path_same path (root.Auto number f local) h)

  object_there : (r : Root) (path : List Part) → There (place_in P r path) → There (object_type P r)
  object_there r path h = first_there (object_type P r) (place_at P.structures path) h

  cell_same : (c : Cell) (w : ValueType) → cell_type P c ≡ Some w → cell_spelled Q c ≡ cell_spelled P c
  cell_same (cell.Device d) w h = refl
  cell_same (cell.At object path) w h = spelled_same object path (object_there object path (first_there (place_in P object path) read_from (ap is_some h)))

  module _ (openings : List ℕ) where
    address_same : (to : ValueType) (a : Address) → IsAddress P openings to a → address_spelled Q a ≡ address_spelled P a
    address_same to address.Null h = refl
    address_same to (address.Func f) h = ap SpelledFunction (name_same f)
    address_same to (address.At object path index count) h = ap (λ (s : Spelled). SpelledObject s index count) (spelled_same object path (object_there object path (names_there to path index count (place_in P object path) h.1)))

    value_same : (w : ValueType) (v : Value) → Real w → HasType P openings w v → value_spelled Q v ≡ value_spelled P v
    value_same NoValue v r h = absurd r
    value_same (Integer t) (value.Int n) r h = refl
    value_same (Integer t) (value.Place a) r h = absurd h
    value_same (ToObject constant volatile t) (value.Int n) r h = absurd h
    value_same (ToObject constant volatile t) (value.Place a) r h = address_same (ToObject constant volatile t) a h
    value_same (ToFunction sig) (value.Int n) r h = absurd h
    value_same (ToFunction sig) (value.Place a) r h = address_same (ToFunction sig) a h

    read_same : (c : Cell) (w : ValueType) (v : Value) → cell_type P c ≡ Some w → HasType P openings w v → row_of Q (event.Read c v) ≡ row_of P (event.Read c v)
    read_same c w v k h = ap (λ (s : Spelled). Reads s (value_spelled Q v)) (cell_same c w k) ∙ ap (Reads (cell_spelled P c)) (value_same w v (cell_real P c w k) h)

    write_same : (c : Cell) (w : ValueType) (v : Value) → cell_type P c ≡ Some w → HasType P openings w v → row_of Q (event.Write c v) ≡ row_of P (event.Write c v)
    write_same c w v k h = ap (λ (s : Spelled). Writes s (value_spelled Q v)) (cell_same c w k) ∙ ap (Writes (cell_spelled P c)) (value_same w v (cell_real P c w k) h)

    -- ---- what a cell holds

    holds_same : (v w : Value) → Holds v ≡ Holds w → v ≡ w
    holds_same v w h = cc

    content_held : (x : Option Value) (w : ValueType) (v : Value) → MayHave P openings w x → content (Some x) ≡ Holds v → HasType P openings w v
    content_held None w v h e = absurd (cc)
    content_held (Some y) w v h e = subst (HasType P openings w) (holds_same y v e) h

    local_by : (a : Active) → IsActive P openings a → (below : List Active) (number func local : ℕ) (path : List Part) (w : ValueType) (v : Value) (b : Bool) → a.number == number ≡ b → slice_get openings number ≡ Some func →
        cell_type P (cell.At (root.Auto number func local) path) ≡ Some w → (local_content below number local (cell_position P (root.Auto number func local) path) ≡ Holds v → HasType P openings w v) →
        (if b then content (scalar_in a.locals local (cell_position P (root.Auto number func local) path)) else local_content below number local (cell_position P (root.Auto number func local) path)) ≡ Holds v → HasType P openings w v
    local_by a h below number func local path w v true e o k next f =
        let same : a.func ≡ func = same_opening P openings number a.func func (subst (λ (n : ℕ). slice_get openings n ≡ Some a.func) (eqb-true a.number number e) h.number) o in
        let x = local_typed P openings a h number local path w (slice_get h.func.locals local) refl (subst (λ (g : ℕ). cell_type P (cell.At (root.Auto number g local) path) ≡ Some w) (sym same) k) in
        content_held x.0 w v x.2 (ap content (sym x.1) ∙ subst (λ (g : ℕ). content (scalar_in a.locals local (cell_position P (root.Auto number g local) path)) ≡ Holds v) (sym same) f)
    local_by a h below number func local path w v false e o k next f = next f

    local_held : (stack : List Active) → AreActive P openings stack → (number func local : ℕ) (path : List Part) (w : ValueType) (v : Value) → slice_get openings number ≡ Some func →
        cell_type P (cell.At (root.Auto number func local) path) ≡ Some w → local_content stack number local (cell_position P (root.Auto number func local) path) ≡ Holds v → HasType P openings w v
    local_held [] h number func local path w v o k e = absurd (cc)
    local_held (a ∷ below) h number func local path w v o k e =
        local_by a h.0 below number func local path w v (a.number == number) refl o k (λ f. local_held below h.1 number func local path w v o k f) e

    held : (s : State) → AreStatics P openings s.memory.statics → AreActive P openings s.stack → (object : Root) (path : List Part) (w : ValueType) (v : Value) → cell_type P (cell.At object path) ≡ Some w → IsOpened openings object →
        content_at s object (cell_position P object path) ≡ Holds v → HasType P openings w v
    held s h j (root.Static i) path w v k o e =
        let x = static_there P openings s.memory.statics i path w (slice_get P.objects i) h refl k in
        subst (HasType P openings w) (holds_same x.0 v (ap static_content (sym x.1) ∙ e)) x.2
    held s h j (root.Auto number func local) path w v k o e = local_held s.stack j number func local path w v o k e

    -- ---- traces

    abbrev Alike : State → Type 0
    Alike s = rows_of Q s.memory.trace ≡ rows_of P s.memory.trace

    either_alike : (b : Bool) (x y : State) → Alike x → Alike y → Alike (if b then x else y)
    either_alike true x y h k = h
    either_alike false x y h k = k

    event_alike : (b : Bool) (s : State) (e : Event) → row_of Q e ≡ row_of P e → Alike s → Alike (with_event b s e)
    event_alike false s e k h = h
    event_alike true s e k h =
        map-append (row_of Q) s.memory.trace (e ∷ []) ∙ ap (λ (l : List Row). l ++ row_of Q e ∷ []) h ∙ ap (λ (r : Row). rows_of P s.memory.trace ++ r ∷ []) k ∙ sym (map-append (row_of P) s.memory.trace (e ∷ []))

    has_read_alike : (s : State) (c : Cell) (manner : Manner) (w : ValueType) (x : Content) → cell_type P c ≡ Some w → ((v : Value) → x ≡ Holds v → HasType P openings w v) → Alike s → Alike (has_read P s c manner x)
    has_read_alike s c manner w Gone k i h = h
    has_read_alike s c manner w Unwritten k i h = either_alike manner.may_be_bad (did P s (Gave None)) (stopped s Trap) h h
    has_read_alike s c manner w (Holds v) k i h = event_alike manner.is_event s (event.Read c v) (read_same c w v k (i v refl)) h

    input_alike : (s : State) (d : ℕ) (x : Option Device) (inputs : List ℤ) → Alike s → Alike (input_read P s d x inputs)
    input_alike s d None inputs h = h
    input_alike s d (Some device) [] h = h
    input_alike s d (Some device) (n ∷ inputs) h = event_alike true s (event.Read (cell.Device d) (value.Int (converted n device.int P.target))) refl h

    read_alike : (s : State) → AreStatics P openings s.memory.statics → AreActive P openings s.stack → (c : Cell) (manner : Manner) → IsAction P openings (Read c manner) → Alike s → Alike (read P s c manner)
    read_alike s st ac (cell.Device d) manner i h = input_alike s d (slice_get P.devices d) s.memory.inputs h
    read_alike s st ac (cell.At object path) manner i h =
        has_read_alike s (cell.At object path) manner i.0 (content_at s object (cell_position P object path)) i.1 (λ v e. held s st ac object path i.0 v i.1 i.2 e) h

    write_alike : (s : State) (c : Cell) (b : Bool) (v : Value) → IsAction P openings (Write c b v) → Alike s → Alike (write P s c b v)
    write_alike s (cell.Device d) b v i h = event_alike true s (event.Write (cell.Device d) v) (write_same (cell.Device d) i.0 v i.1 i.3) h
    write_alike s (cell.At (root.Static k) path) b v i h = event_alike b _ (event.Write (cell.At (root.Static k) path) v) (write_same (cell.At (root.Static k) path) i.0 v i.1 i.3) h
    write_alike s (cell.At (root.Auto number f local) path) b v i h = by_open (is_open s.stack number)
      where
        c : Cell
        c = cell.At (root.Auto number f local) path

        by_open : (o : Bool) → Alike (has_written P c b v s (if o then Some (with_stack s (with_local s.stack number local (cell_position P (root.Auto number f local) path) v)) else None))
        by_open true = event_alike b _ (event.Write c v) (write_same c i.0 v i.1 i.3) h
        by_open false = h

    call_alike : (s : State) (a : Address) (args : List Value) → Alike s → Alike (call P s a args)
    call_alike s address.Null args h = h
    call_alike s (address.Func f) args h = by_func (slice_get P.funcs f)
      where
        by_func : (g : Option Func) → Alike (opened_if P s f args g)
        by_func None = h
        by_func (Some g) = h
    call_alike s (address.At object path index count) args h = h

    perform_alike : (s : State) → AreStatics P openings s.memory.statics → AreActive P openings s.stack → (x : Action) → IsAction P openings x → Alike s → Alike (perform P s x)
    perform_alike s st ac (Read c manner) i h = read_alike s st ac c manner i h
    perform_alike s st ac (Write c b v) i h = write_alike s c b v i h
    perform_alike s st ac (Choose b) i h = h
    perform_alike s st ac (Call a args) i h = call_alike s a args h
    perform_alike s st ac (Flag on) i h = h
    perform_alike s st ac Save i h = h

    returned_alike : (s : State) (a : Active) (below : List Active) (v : Value) → Alike s → Alike (returned P s a below v)
    returned_alike s a [] v h = h
    returned_alike s a (b ∷ below) v h = either_alike a.handler (with_flag (with_stack s (b ∷ below)) true) (with_stack s (marked P b (return_mark P a.func v) ∷ below)) h h

    fallen_alike : (s : State) (a : Active) (below : List Active) → Alike s → Alike (fallen P s a below)
    fallen_alike s a below h = either_alike (gives_nothing (slice_get P.funcs a.func) || (a.func == P.main)) (returned P s a below no_value) (stopped s Trap) (returned_alike s a below no_value h) h

    done_alike : (x : is.Stmt-F Stmt Case) (s : State) (a : Active) (below : List Active) (v : Value) → Alike s → Alike (done P x s a below v)
    done_alike x s a below v h = either_alike (is_return x) (returned P s a below v) (with_stack s (goes_to P a (next_place x a v) ∷ below)) (returned_alike s a below v h) h

    stepped_alike : (x : is.Stmt-F Stmt Case) (s : State) (a : Active) (below : List Active) (r : Progress (Option Value)) → AreStatics P openings s.memory.statics → AreActive P openings s.stack → ((action : Action) → r ≡ Waits action → IsAction P openings action) →
        Alike s → Alike (stepped P x s a below r)
    stepped_alike x s a below (Waits action) st ac i h = perform_alike s st ac action (i action refl) h
    stepped_alike x s a below (Traps ms) st ac i h = h
    stepped_alike x s a below (Known None ms) st ac i h = h
    stepped_alike x s a below (Known (Some v) ms) st ac i h = done_alike x s a below v h

    active_alike : (l : List Stmt) (s : State) (a : Active) (below : List Active) → AreStatics P openings s.memory.statics → AreActive P openings s.stack → ((action : Action) → progress_of P a (worked_at a.here l) ≡ Waits action → IsAction P openings action) →
        Alike s → Alike (active_step P l s a below)
    active_alike [] s a below st ac i h = fallen_alike s a below h
    active_alike (x ∷ rest) s a below st ac i h = stepped_alike (out-Stmt x) s a below (progress_of P a (worked (out-Stmt x) a.here.phase)) st ac i h

    proceed_alike : (s : State) (stack : List Active) → AreStatics P openings s.memory.statics → AreActive P openings stack → Alike s → Alike (proceed P s stack)
    proceed_alike s [] st ac h = h
    proceed_alike s (a ∷ below) st ac h = active_alike a.here.rest (with_stack s (a ∷ below)) a below st ac (asked P openings a ac.0) h

    by_entering : (s : State) → AreStatics P openings s.memory.statics → AreActive P openings s.stack → (x : Option (ℕ × Func)) → Alike s → Alike (turn_by P s x)
    by_entering s st ac (Some f) h = event_alike true (with_flag s false) (event.Enter f.0) (ap Enters (name_same f.0)) h
    by_entering s st ac None h = either_alike (is_going s.end) (proceed P s s.stack) s (proceed_alike s s.stack st ac h) h

  -- the events of a turn are spelled alike
  pub rows_kept : (t : State) → IsState P t → rows_of Q t.memory.trace ≡ rows_of P t.memory.trace → (arrival : Option ℕ) → rows_of Q (turn P t arrival).memory.trace ≡ rows_of P (turn P t arrival).memory.trace
  rows_kept t h k arrival = by_entering h.0 t h.1.statics h.1.stack (entering P t arrival) k
