-- A step that a full expression asks for keeps a state of the program one.
use Rattle.std.proofs.Common.{◌<◌, ◌≡◌, ℕ, ℤ, Bool, true, false, List, [], ◌∷◌, Option, Some, None, refl, ap, sym, ◌∙◌, subst}
use Rattle.std.proofs.lemmas.List.{length-set}
use Rattle.std.proofs.lemmas.Bool.{eqb-true}
use Rattle.std.proofs.lemmas.Option.{same_Some}
use Rattle.std.specs.Prelude.{option_map, slice_get, slice_set, if◌then◌else◌, ◌==◌}
use Rattle.cc_program.specs.CcNum.Integers.{converted}
use Rattle.cc_program.proofs.CcNum.Conversions.{converted-IsValueOf}
use Rattle.cc_program.proofs.CcNum.ResultLaws.{is_value_from}
use Rattle.cc_program.specs.declared.func.Func.{Func}
use Rattle.cc_program.specs.declared.object.Device.{Device}
use Rattle.cc_program.specs.declared.object.Object.{Object}
use Rattle.cc_program.specs.declared.program.Program.{Program}
use Rattle.cc_program.specs.declared.value.Address.TheVariants as address
use Rattle.cc_program.specs.declared.value.Cell.{Cell}
use Rattle.cc_program.specs.declared.value.Cell.TheVariants as cell
use Rattle.cc_program.specs.declared.value.Part.{Part}
use Rattle.cc_program.specs.declared.value.Root.{Root}
use Rattle.cc_program.specs.declared.value.Root.TheVariants as root
use Rattle.cc_program.specs.declared.value.Value.{Value}
use Rattle.cc_program.specs.declared.value.Value.TheVariants.{Int}
use Rattle.cc_steps.specs.CcCells.Cells.{scalar_in, set_scalar, with_scalar}
use Rattle.cc_steps.specs.CcCells.Scalars.{position}
use Rattle.cc_steps.specs.CcEval.declared.action.Action.{Action}
use Rattle.cc_steps.specs.CcEval.declared.action.Action.TheVariants.{Read, Write, Call}
use Rattle.cc_steps.specs.CcEval.declared.action.Manner.{Manner}
use Rattle.cc_steps.specs.CcEval.declared.mark.Mark.{Mark}
use Rattle.cc_steps.specs.CcEval.declared.mark.Mark.TheVariants.{Gave, Did}
use Rattle.cc_steps.specs.CcEval.Context.{local_type, object_type}
use Rattle.cc_steps.specs.CcEval.Progress.{Waits}
use Rattle.cc_steps.specs.declared.content.Content.{Content}
use Rattle.cc_steps.specs.declared.content.Content.TheVariants.{Gone, Unwritten, Holds}
use Rattle.cc_steps.specs.declared.event.End.{End}
use Rattle.cc_steps.specs.declared.event.End.TheVariants.{Trap, Starved}
use Rattle.cc_steps.specs.declared.event.Event.{Event}
use Rattle.cc_steps.specs.declared.event.Event.TheVariants as event
use Rattle.cc_steps.specs.Access.{content, local_content, with_locals, is_open, with_local}
use Rattle.cc_steps.specs.State.{Active, IsSameCall, State}
use Rattle.cc_steps.specs.Step.{stopped, with_stack, with_flag, with_statics, with_inputs, with_event, static_content, content_at, progress_of, on_top, did, marked, cell_position, has_read, input_read, read, has_written, write}
use Rattle.cc_steps.specs.Turn.{is_going}
use Rattle.cc_steps.specs.CcSyntax.Expressions.{of_one}
use Rattle.cc_steps.specs.CcSyntax.Initial.{place_at}
use Rattle.cc_steps.specs.CcSyntax.Types.{Named, IsInOrder}
use Rattle.cc_steps.specs.CcSyntax.Values.{ValueType, Integer, PlaceType, object_place, read_from}
use Rattle.cc_states.specs.Answers.{IsAction, IsMarkOf}
use Rattle.cc_states.specs.States.{AreWritten, AreScalars, AreStatics, AreLocals, expression_of, IsActive, AreActive, AreCalled, IsStateOf, AreInOrder}
use Rattle.cc_states.specs.Typed.{IsOpened, HasType, MayHave, cell_type}
use Rattle.cc_states.proofs.ActiveLemmas.{marked_active, called_again, in_order_again}
use Rattle.cc_steps.proofs.MarkLemmas.{marked_call}
use Rattle.cc_states.proofs.ParameterLemmas.{parameters_written}
use Rattle.cc_states.proofs.PathLemmas.{written_typed}
use Rattle.cc_steps.proofs.CellsApart.{set_here, set_elsewhere}
use Rattle.cc_states.proofs.ListLemmas.{not_equal}
use Rattle.cc_states.proofs.StateLemmas.{nothing_there, static_there, local_in, same_opening}

holds_same : (v w : Value) → Holds v ≡ Holds w → v ≡ w
holds_same v w h = cc

module _ (p : Program) (openings : List ℕ) where
  abbrev pub Is : State → Type 0
  Is s = IsStateOf p openings s

  -- ---- parts of the state

  pub event_state : (b : Bool) (s : State) (e : Event) → Is s → Is (with_event b s e)
  event_state false s e h = h
  event_state true s e h = record { count = h.count; statics = h.statics; stack = h.stack; called = h.called; order = h.order; running = h.running }

  pub event_stack : (b : Bool) (s : State) (e : Event) → (with_event b s e).stack ≡ s.stack
  event_stack false s e = refl
  event_stack true s e = refl

  pub flag_state : (s : State) (on : Bool) → Is s → Is (with_flag s on)
  flag_state s on h = record { count = h.count; statics = h.statics; stack = h.stack; called = h.called; order = h.order; running = h.running }

  inputs_state : (s : State) (inputs : List ℤ) → Is s → Is (with_inputs s inputs)
  inputs_state s inputs h = record { count = h.count; statics = h.statics; stack = h.stack; called = h.called; order = h.order; running = h.running }

  ended : {B : Type 0} (end : End) → is_going end ≡ false → is_going end ≡ true → B
  ended end h k = absurd (cc)

  pub stopped_state : (s : State) (end : End) → is_going end ≡ false → Is s → Is (stopped s end)
  stopped_state s end e h = record { count = h.count; statics = h.statics; stack = h.stack; called = h.called; order = h.order; running = λ g. ended end e g }

  -- the running activation is another one, of the same function
  pub with_top : (s : State) → Is s → (a b : Active) (below : List Active) → s.stack ≡ a ∷ below → IsActive p openings b → IsSameCall b a → Is (with_stack s (b ∷ below))
  with_top s h a b below top i same = record {
    count = h.count;
    statics = h.statics;
    stack = (i, (subst (AreActive p openings) top h.stack).1);
    called = called_again p a b below same (subst (AreCalled p) top h.called);
    order = in_order_again a b below same.number (subst AreInOrder top h.order);
    running = λ g. (b, below, refl);
  }

  pub did_state : (s : State) → Is s → (a : Active) (below : List Active) → s.stack ≡ a ∷ below → (action : Action) → progress_of p a (expression_of a) ≡ Waits action → (m : Mark) → IsMarkOf p openings action m → Is (did p s m)
  did_state s h a below top action w m i =
      subst (λ (stack : List Active). Is (with_stack s stack)) (sym (ap (λ (stack : List Active). on_top p stack m) top))
      (with_top s h a (marked p a m) below top (marked_active p openings a (subst (AreActive p openings) top h.stack).0 m action w i) (marked_call p a m))

  -- ---- what a cell holds

  pub static_held : (s : State) (i : ℕ) (path : List Part) (w : ValueType) (v : Value) → AreStatics p openings s.memory.statics → cell_type p (cell.At (root.Static i) path) ≡ Some w →
      content_at s (root.Static i) (cell_position p (root.Static i) path) ≡ Holds v → HasType p openings w v
  static_held s i path w v h k e =
      let x = static_there p openings s.memory.statics i path w (slice_get p.objects i) h refl k in
      subst (HasType p openings w) (holds_same x.0 v (ap static_content (sym x.1) ∙ e)) x.2

  pub content_held : (x : Option Value) (w : ValueType) (v : Value) → MayHave p openings w x → content (Some x) ≡ Holds v → HasType p openings w v
  content_held None w v h e = absurd (cc)
  content_held (Some y) w v h e = subst (HasType p openings w) (holds_same y v e) h

  local_by : (a : Active) → IsActive p openings a → (below : List Active) (number func local : ℕ) (path : List Part) (w : ValueType) (v : Value) (b : Bool) → a.number == number ≡ b → slice_get openings number ≡ Some func →
      cell_type p (cell.At (root.Auto number func local) path) ≡ Some w → (local_content below number local (cell_position p (root.Auto number func local) path) ≡ Holds v → HasType p openings w v) →
      (if b then content (scalar_in a.locals local (cell_position p (root.Auto number func local) path)) else local_content below number local (cell_position p (root.Auto number func local) path)) ≡ Holds v → HasType p openings w v
  local_by a h below number func local path w v true e o k next f =
      let same : a.func ≡ func = same_opening p openings number a.func func (subst (λ (n : ℕ). slice_get openings n ≡ Some a.func) (eqb-true a.number number e) h.number) o in
      let x = local_in p openings a h number local path w (slice_get h.func.locals local) refl (subst (λ (g : ℕ). cell_type p (cell.At (root.Auto number g local) path) ≡ Some w) (sym same) k) in
      content_held x.0 w v x.2 (ap content (sym x.1) ∙ subst (λ (g : ℕ). content (scalar_in a.locals local (cell_position p (root.Auto number g local) path)) ≡ Holds v) (sym same) f)
  local_by a h below number func local path w v false e o k next f = next f

  pub local_held : (stack : List Active) → AreActive p openings stack → (number func local : ℕ) (path : List Part) (w : ValueType) (v : Value) → slice_get openings number ≡ Some func →
      cell_type p (cell.At (root.Auto number func local) path) ≡ Some w → local_content stack number local (cell_position p (root.Auto number func local) path) ≡ Holds v → HasType p openings w v
  local_held [] h number func local path w v o k e = absurd (cc)
  local_held (a ∷ below) h number func local path w v o k e =
      local_by a h.0 below number func local path w v (a.number == number) refl o k (λ f. local_held below h.1 number func local path w v o k f) e

  pub held : (s : State) → Is s → (object : Root) (path : List Part) (w : ValueType) (v : Value) → cell_type p (cell.At object path) ≡ Some w → IsOpened openings object →
      content_at s object (cell_position p object path) ≡ Holds v → HasType p openings w v
  held s h (root.Static i) path w v k o e = static_held s i path w v h.statics k e
  held s h (root.Auto number func local) path w v k o e = local_held s.stack h.stack number func local path w v o k e

  -- ---- reads

  module _ (s : State) (h : Is s) (a : Active) (below : List Active) (top : s.stack ≡ a ∷ below) where
    gave : (at : Cell) (manner : Manner) (w : ValueType) (v : Value) → progress_of p a (expression_of a) ≡ Waits (Read at manner) → cell_type p at ≡ Some w → HasType p openings w v → (t : State) → Is t → t.stack ≡ s.stack →
        (b : Bool) (e : Event) → Is (did p (with_event b t e) (Gave (Some v)))
    gave at manner w v waits k i t j same b e =
        did_state (with_event b t e) (event_state b t e j) a below (event_stack b t e ∙ same ∙ top) (Read at manner) waits (Gave (Some v)) (w, k, i)

    unwritten : (at : Cell) (manner : Manner) (b : Bool) → manner.may_be_bad ≡ b → progress_of p a (expression_of a) ≡ Waits (Read at manner) → Is (if b then did p s (Gave None) else stopped s Trap)
    unwritten at manner true e waits = did_state s h a below top (Read at manner) waits (Gave None) e
    unwritten at manner false e waits = stopped_state s Trap refl h

    object_read : (at : Cell) (manner : Manner) (w : ValueType) (x : Content) → progress_of p a (expression_of a) ≡ Waits (Read at manner) → cell_type p at ≡ Some w → ((v : Value) → x ≡ Holds v → HasType p openings w v) → Is (has_read p s at manner x)
    object_read at manner w Gone waits k i = stopped_state s Trap refl h
    object_read at manner w Unwritten waits k i = unwritten at manner manner.may_be_bad refl waits
    object_read at manner w (Holds v) waits k i = gave at manner w v waits k (i v refl) s h refl manner.is_event (event.Read at v)

    device_read : (d : ℕ) (manner : Manner) (x : Option Device) (inputs : List ℤ) → slice_get p.devices d ≡ x → progress_of p a (expression_of a) ≡ Waits (Read (cell.Device d) manner) → Is (input_read p s d x inputs)
    device_read d manner None inputs e waits = stopped_state s Trap refl h
    device_read d manner (Some device) [] e waits = stopped_state s Starved refl h
    device_read d manner (Some device) (n ∷ inputs) e waits =
        gave (cell.Device d) manner (Integer device.int) (Int (converted n device.int p.target)) waits (ap (option_map (λ (d : Device). Integer d.int)) e)
        (is_value_from device.int p.target (converted n device.int p.target) (converted-IsValueOf n device.int p.target)) (with_inputs s inputs) (inputs_state s inputs h) refl true (event.Read (cell.Device d) (Int (converted n device.int p.target)))

    pub read_state : (at : Cell) (manner : Manner) → progress_of p a (expression_of a) ≡ Waits (Read at manner) → IsAction p openings (Read at manner) → Is (read p s at manner)
    read_state (cell.Device d) manner waits i = device_read d manner (slice_get p.devices d) s.memory.inputs refl waits
    read_state (cell.At object path) manner waits i =
        object_read (cell.At object path) manner i.0 (content_at s object (cell_position p object path)) waits i.1 (λ v e. held s h object path i.0 v i.1 i.2 e)

  -- ---- writes

  module _ (order : IsInOrder p.structures) where
    statics_by : (statics : List (List Value)) → AreStatics p openings statics → (i : ℕ) (o : Object) (path : List Part) (w : ValueType) (v : Value) → slice_get p.objects i ≡ Some o →
        of_one (place_at p.structures path (object_place o.ctype)) read_from ≡ Some w → HasType p openings w v → (values : List Value) → slice_get statics i ≡ Some values → AreScalars p (HasType p openings) o.ctype values →
        (j : ℕ) (q : Object) (b : Bool) → i == j ≡ b → slice_get p.objects j ≡ Some q →
        (others : List Value) × (slice_get (slice_set statics i (slice_set values (position p.structures path (Some (object_place o.ctype))) v)) j ≡ Some others) × AreScalars p (HasType p openings) q.ctype others
    statics_by statics h i o path w v e k t values f all j q true g l =
        let same = eqb-true i j g in
        let one : o ≡ q = same_Some o q (sym e ∙ ap (slice_get p.objects) same ∙ l) in (
          slice_set values (position p.structures path (Some (object_place o.ctype))) v,
          ap (slice_get (slice_set statics i (slice_set values (position p.structures path (Some (object_place o.ctype))) v))) (sym same) ∙ set_here statics i (slice_set values (position p.structures path (Some (object_place o.ctype))) v) values f,
          subst (λ (x : Object). AreScalars p (HasType p openings) x.ctype (slice_set values (position p.structures path (Some (object_place o.ctype))) v)) one
              (written_typed p openings order (HasType p openings) o.ctype values all path w k v t),
        )
    statics_by statics h i o path w v e k t values f all j q false g l =
        let old = h.1 j q l in
        (old.0, set_elsewhere statics i j (slice_set values (position p.structures path (Some (object_place o.ctype))) v) (λ same. not_equal i j same g) ∙ old.1, old.2)

    statics_written : (statics : List (List Value)) → AreStatics p openings statics → (i : ℕ) (path : List Part) (w : ValueType) (v : Value) (x : Option Object) → slice_get p.objects i ≡ x → cell_type p (cell.At (root.Static i) path) ≡ Some w →
        HasType p openings w v → AreStatics p openings (with_scalar statics i (cell_position p (root.Static i) path) v)
    statics_written statics h i path w v None e k t =
        nothing_there p openings w _ (ap (λ (y : Option Object). of_one (of_one (option_map (λ (o : Object). object_place o.ctype) y) (place_at p.structures path)) read_from) e) k
    statics_written statics h i path w v (Some o) e k t =
        let place : object_type p (root.Static i) ≡ Some (object_place o.ctype) = ap (option_map (λ (o : Object). object_place o.ctype)) e in
        let values = h.1 i o e in
        let set : with_scalar statics i (cell_position p (root.Static i) path) v ≡ slice_set statics i (slice_set values.0 (position p.structures path (Some (object_place o.ctype))) v) =
        ap (λ (y : Option PlaceType). with_scalar statics i (position p.structures path y) v) place ∙ ap (set_scalar statics i (position p.structures path (Some (object_place o.ctype))) v) values.1 in
        subst (AreStatics p openings) (sym set)
        (length-set statics i (slice_set values.0 (position p.structures path (Some (object_place o.ctype))) v) ∙ h.0, λ j q l. statics_by statics h i o path w v e (ap (λ (y : Option PlaceType). of_one (of_one y (place_at p.structures path)) read_from) (sym place) ∙ k) t values.0 values.1 values.2 j q (i == j) refl l)

    locals_by : (f : Func) (locals : List (List (Option Value))) → AreLocals p openings f locals → (i : ℕ) (o : Named) (path : List Part) (w : ValueType) (v : Value) → slice_get f.locals i ≡ Some o →
        of_one (place_at p.structures path (object_place o.1)) read_from ≡ Some w → HasType p openings w v → (values : List (Option Value)) → slice_get locals i ≡ Some values → AreScalars p (MayHave p openings) o.1 values →
        (j : ℕ) (q : Named) (b : Bool) → i == j ≡ b → slice_get f.locals j ≡ Some q →
        (others : List (Option Value)) × (slice_get (slice_set locals i (slice_set values (position p.structures path (Some (object_place o.1))) (Some v))) j ≡ Some others) × AreScalars p (MayHave p openings) q.1 others
    locals_by fn locals h i o path w v e k t values f all j q true g l =
        let same = eqb-true i j g in
        let one : o ≡ q = same_Some o q (sym e ∙ ap (slice_get fn.locals) same ∙ l) in (
          slice_set values (position p.structures path (Some (object_place o.1))) (Some v),
          ap (slice_get (slice_set locals i (slice_set values (position p.structures path (Some (object_place o.1))) (Some v)))) (sym same) ∙ set_here locals i (slice_set values (position p.structures path (Some (object_place o.1))) (Some v)) values f,
          subst (λ (x : Named). AreScalars p (MayHave p openings) x.1 (slice_set values (position p.structures path (Some (object_place o.1))) (Some v))) one
              (written_typed p openings order (MayHave p openings) o.1 values all path w k (Some v) t),
        )
    locals_by fn locals h i o path w v e k t values f all j q false g l =
        let old = h.1 j q l in
        (old.0, set_elsewhere locals i j (slice_set values (position p.structures path (Some (object_place o.1))) (Some v)) (λ same. not_equal i j same g) ∙ old.1, old.2)

    locals_written : (a : Active) (h : IsActive p openings a) (number local : ℕ) (path : List Part) (w : ValueType) (v : Value) (x : Option Named) → slice_get h.func.locals local ≡ x → cell_type p (cell.At (root.Auto number a.func local) path) ≡ Some w →
        HasType p openings w v → AreLocals p openings h.func (with_scalar a.locals local (cell_position p (root.Auto number a.func local) path) (Some v))
    locals_written a h number local path w v None e k t =
        nothing_there p openings w _ (ap (λ (y : Option Func). of_one (of_one (local_type local y) (place_at p.structures path)) read_from) h.function
        ∙ ap (λ (y : Option Named). of_one (of_one (option_map (λ (l : Named). object_place l.1) y) (place_at p.structures path)) read_from) e) k
    locals_written a h number local path w v (Some l) e k t =
        let place : object_type p (root.Auto number a.func local) ≡ Some (object_place l.1) = ap (local_type local) h.function ∙ ap (option_map (λ (l : Named). object_place l.1)) e in
        let values = h.locals.1 local l e in
        let set : with_scalar a.locals local (cell_position p (root.Auto number a.func local) path) (Some v) ≡ slice_set a.locals local (slice_set values.0 (position p.structures path (Some (object_place l.1))) (Some v)) =
        ap (λ (y : Option PlaceType). with_scalar a.locals local (position p.structures path y) (Some v)) place ∙ ap (set_scalar a.locals local (position p.structures path (Some (object_place l.1))) (Some v)) values.1 in
        subst (AreLocals p openings h.func) (sym set)
        (length-set a.locals local (slice_set values.0 (position p.structures path (Some (object_place l.1))) (Some v)) ∙ h.locals.0, λ j q i. locals_by h.func a.locals h.locals local l path w v e (ap (λ (y : Option PlaceType). of_one (of_one y (place_at p.structures path)) read_from) (sym place) ∙ k) t values.0 values.1 values.2 j q (local == j) refl i)

    active_written : (a : Active) (h : IsActive p openings a) (locals : List (List (Option Value))) → AreLocals p openings h.func locals → AreWritten h.func.params locals → IsActive p openings (with_locals a locals)
    active_written a h locals k w = record { func = h.func; function = h.function; number = h.number; entry = h.entry; locals = k; parameters = w; control = h.control; inside = h.inside; marks = h.marks }

    stack_by : (a : Active) → IsActive p openings a → (below : List Active) → AreActive p openings below → (number func local : ℕ) (path : List Part) (w : ValueType) (v : Value) (b : Bool) → a.number == number ≡ b → slice_get openings number ≡ Some func →
        cell_type p (cell.At (root.Auto number func local) path) ≡ Some w → HasType p openings w v → AreActive p openings (with_local below number local (cell_position p (root.Auto number func local) path) v) →
        AreActive p openings (if b then with_locals a (with_scalar a.locals local (cell_position p (root.Auto number func local) path) (Some v)) ∷ below else a ∷ with_local below number local (cell_position p (root.Auto number func local) path) v)
    stack_by a h below k number func local path w v true e o i t next =
        let same : a.func ≡ func = same_opening p openings number a.func func (subst (λ (n : ℕ). slice_get openings n ≡ Some a.func) (eqb-true a.number number e) h.number) o in (
          active_written a h (with_scalar a.locals local (cell_position p (root.Auto number func local) path) (Some v))
              (subst (λ (g : ℕ). AreLocals p openings h.func (with_scalar a.locals local (cell_position p (root.Auto number g local) path) (Some v))) same
              (locals_written a h number local path w v (slice_get h.func.locals local) refl (subst (λ (g : ℕ). cell_type p (cell.At (root.Auto number g local) path) ≡ Some w) (sym same) i) t))
              (parameters_written h.func.params a.locals h.parameters local (cell_position p (root.Auto number func local) path) v),
          k,
        )
    stack_by a h below k number func local path w v false e o i t next = (h, next)

    stack_written : (stack : List Active) → AreActive p openings stack → (number func local : ℕ) (path : List Part) (w : ValueType) (v : Value) → slice_get openings number ≡ Some func → cell_type p (cell.At (root.Auto number func local) path) ≡ Some w →
        HasType p openings w v → AreActive p openings (with_local stack number local (cell_position p (root.Auto number func local) path) v)
    stack_written [] h number func local path w v o i t = tt
    stack_written (a ∷ below) h number func local path w v o i t =
        stack_by a h.0 below h.1 number func local path w v (a.number == number) refl o i t (stack_written below h.1 number func local path w v o i t)

    -- who has called whom is as before
    called_same : (a : Active) (below : List Active) (locals : List (List (Option Value))) → AreCalled p (a ∷ below) → AreCalled p (with_locals a locals ∷ below)
    called_same a [] locals h = h
    called_same a (c ∷ below) locals h = h

    called_on : (a c : Active) (below rest : List Active) (locals : List (List (Option Value))) (b : Bool) →
        (a.handler ≡ false → (args : List Value) × (progress_of p c (expression_of c) ≡ Waits (Call (address.Func a.func) args))) → AreCalled p (if b then with_locals c locals ∷ below else c ∷ rest) →
        AreCalled p (a ∷ (if b then with_locals c locals ∷ below else c ∷ rest))
    called_on a c below rest locals true h k = (h, k)
    called_on a c below rest locals false h k = (h, k)

    either_called : (a : Active) (below rest : List Active) (locals : List (List (Option Value))) (b : Bool) → AreCalled p (a ∷ below) → AreCalled p (a ∷ rest) → AreCalled p (if b then with_locals a locals ∷ below else a ∷ rest)
    either_called a below rest locals true h k = called_same a below locals h
    either_called a below rest locals false h k = k

    called_written : (stack : List Active) → AreCalled p stack → (number local k : ℕ) (v : Value) → AreCalled p (with_local stack number local k v)
    called_written [] h number local k v = tt
    called_written (a ∷ []) h number local k v = either_called a [] [] (with_scalar a.locals local k (Some v)) (a.number == number) h h
    called_written (a ∷ c ∷ below) h number local k v =
        either_called a (c ∷ below) (with_local (c ∷ below) number local k v) (with_scalar a.locals local k (Some v)) (a.number == number) h
        (called_on a c below (with_local below number local k v) (with_scalar c.locals local k (Some v)) (c.number == number) h.0 (called_written (c ∷ below) h.1 number local k v))

    -- and so is the order
    order_same : (a : Active) (below : List Active) (locals : List (List (Option Value))) → AreInOrder (a ∷ below) → AreInOrder (with_locals a locals ∷ below)
    order_same a [] locals h = h
    order_same a (c ∷ below) locals h = h

    order_on : (a c : Active) (below rest : List Active) (locals : List (List (Option Value))) (b : Bool) → c.number < a.number → AreInOrder (if b then with_locals c locals ∷ below else c ∷ rest) →
        AreInOrder (a ∷ (if b then with_locals c locals ∷ below else c ∷ rest))
    order_on a c below rest locals true h k = (h, k)
    order_on a c below rest locals false h k = (h, k)

    either_order : (a : Active) (below rest : List Active) (locals : List (List (Option Value))) (b : Bool) → AreInOrder (a ∷ below) → AreInOrder (a ∷ rest) → AreInOrder (if b then with_locals a locals ∷ below else a ∷ rest)
    either_order a below rest locals true h k = order_same a below locals h
    either_order a below rest locals false h k = k

    order_written : (stack : List Active) → AreInOrder stack → (number local k : ℕ) (v : Value) → AreInOrder (with_local stack number local k v)
    order_written [] h number local k v = tt
    order_written (a ∷ []) h number local k v = either_order a [] [] (with_scalar a.locals local k (Some v)) (a.number == number) h h
    order_written (a ∷ c ∷ below) h number local k v =
        either_order a (c ∷ below) (with_local (c ∷ below) number local k v) (with_scalar a.locals local k (Some v)) (a.number == number) h
        (order_on a c below (with_local below number local k v) (with_scalar c.locals local k (Some v)) (c.number == number) h.0 (order_written (c ∷ below) h.1 number local k v))

    -- the running activation still waits
    abbrev WaitsOnTop : List Active → Action → Type 0
    WaitsOnTop stack action = (a : Active) × (below : List Active) × (stack ≡ a ∷ below) × (progress_of p a (expression_of a) ≡ Waits action)

    waits_by : (a : Active) (below rest : List Active) (locals : List (List (Option Value))) (action : Action) (b : Bool) → progress_of p a (expression_of a) ≡ Waits action →
        WaitsOnTop (if b then with_locals a locals ∷ below else a ∷ rest) action
    waits_by a below rest locals action true w = (with_locals a locals, below, refl, w)
    waits_by a below rest locals action false w = (a, rest, refl, w)

    waits_written : (stack : List Active) (action : Action) → WaitsOnTop stack action → (number local k : ℕ) (v : Value) → WaitsOnTop (with_local stack number local k v) action
    waits_written stack action w number local k v =
        subst (λ (x : List Active). WaitsOnTop (with_local x number local k v) action) (sym w.2)
        (waits_by w.0 w.1 (with_local w.1 number local k v) (with_scalar w.0.locals local k (Some v)) action (w.0.number == number) w.3)

    module _ (s : State) (h : Is s) (a : Active) (below : List Active) (top : s.stack ≡ a ∷ below) where
      wrote : (at : Cell) (is_event : Bool) (v : Value) (t : State) → Is t → WaitsOnTop t.stack (Write at is_event v) → (b : Bool) (e : Event) → Is (did p (with_event b t e) Did)
      wrote at is_event v t j w b e = did_state (with_event b t e) (event_state b t e j) w.0 w.1 (event_stack b t e ∙ w.2) (Write at is_event v) w.3 Did refl

      local_write : (number func local : ℕ) (path : List Part) (is_event : Bool) (v : Value) (w : ValueType) (b : Bool) → progress_of p a (expression_of a) ≡ Waits (Write (cell.At (root.Auto number func local) path) is_event v) →
          slice_get openings number ≡ Some func → cell_type p (cell.At (root.Auto number func local) path) ≡ Some w → HasType p openings w v →
          Is (has_written p (cell.At (root.Auto number func local) path) is_event v s (if b then Some (with_stack s (with_local s.stack number local (cell_position p (root.Auto number func local) path) v)) else None))
      local_write number func local path is_event v w true waits o i t =
          let k = cell_position p (root.Auto number func local) path in
          let on : WaitsOnTop (with_local s.stack number local k v) (Write (cell.At (root.Auto number func local) path) is_event v) =
          waits_written s.stack (Write (cell.At (root.Auto number func local) path) is_event v) (a, below, top, waits) number local k v in
          wrote (cell.At (root.Auto number func local) path) is_event v (with_stack s (with_local s.stack number local k v))
          (record {
            count = h.count;
            statics = h.statics;
            stack = stack_written s.stack h.stack number func local path w v o i t;
            called = called_written s.stack h.called number local k v;
            order = order_written s.stack h.order number local k v;
            running = λ g. (on.0, on.1, on.2);
          }) on is_event (event.Write (cell.At (root.Auto number func local) path) v)
      local_write number func local path is_event v w false waits o i t = stopped_state s Trap refl h

      pub write_state : (at : Cell) (is_event : Bool) (v : Value) → progress_of p a (expression_of a) ≡ Waits (Write at is_event v) → IsAction p openings (Write at is_event v) → Is (write p s at is_event v)
      write_state (cell.Device d) is_event v waits i = wrote (cell.Device d) is_event v s h (a, below, top, waits) true (event.Write (cell.Device d) v)
      write_state (cell.At (root.Static i) path) is_event v waits k =
          wrote (cell.At (root.Static i) path) is_event v (with_statics s (with_scalar s.memory.statics i (cell_position p (root.Static i) path) v))
          (record {
            count = h.count;
            statics = statics_written s.memory.statics h.statics i path k.0 v (slice_get p.objects i) refl k.1 k.3;
            stack = h.stack;
            called = h.called;
            order = h.order;
            running = h.running;
          }) (a, below, top, waits) is_event (event.Write (cell.At (root.Static i) path) v)
      write_state (cell.At (root.Auto number func local) path) is_event v waits k = local_write number func local path is_event v k.0 (is_open s.stack number) waits k.2 k.1 k.3
