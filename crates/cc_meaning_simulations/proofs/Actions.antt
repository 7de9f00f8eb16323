-- What a step does to the memory and to the activations where both programs make the same transition: actions, calls, returns and ends of
-- functions, whatever relation of local states they keep.
use Rattle.std.proofs.lemmas.Bool.{eq-eqb, eqb-true}
use Rattle.std.specs.Prelude.{is_some, nat_lt}
use Rattle.std.proofs.Common.{◌≡◌, ◌∙◌, ◌∷◌, ◌++◌, ◌+◌, ◌==◌, ◌⊎◌, inl, inr, ◌||◌, if◌then◌else◌, ℕ, ℤ, Bool, true, false, not, List, [], length, Option, Some, None, option_map, option_and_then, slice_get, slice_set, refl, ap, sym, subst}
use Rattle.cc_steps.specs.CcCells.Cells.{scalar_in, with_scalar}
use Rattle.cc_steps.specs.CcEval.declared.action.Action.{Action}
use Rattle.cc_steps.specs.CcEval.declared.action.Action.TheVariants.{Read, Write, Choose, Call, Flag, Save}
use Rattle.cc_steps.specs.CcEval.declared.action.Manner.{Manner}
use Rattle.cc_steps.specs.CcEval.declared.mark.Mark.{Mark}
use Rattle.cc_steps.specs.CcEval.declared.mark.Mark.TheVariants.{Gave, Did, Chose}
use Rattle.cc_steps.specs.CcEval.Progress.{no_value}
use Rattle.cc_program.specs.declared.func.Func.{Func}
use Rattle.cc_steps.specs.CcSyntax.Types.{Named}
use Rattle.cc_program.specs.declared.object.Device.{Device}
use Rattle.cc_program.specs.declared.program.Program.{Program}
use Rattle.cc_program.specs.declared.stmt.Stmt.{Stmt}
use Rattle.cc_program.specs.declared.value.Address.{Address}
use Rattle.cc_program.specs.declared.value.Address.TheVariants as address
use Rattle.cc_program.specs.declared.value.Cell.{Cell}
use Rattle.cc_program.specs.declared.value.Cell.TheVariants as cell
use Rattle.cc_program.specs.declared.value.Part.{Part}
use Rattle.cc_program.specs.declared.value.Root.{Root}
use Rattle.cc_program.specs.declared.value.Root.TheVariants as root
use Rattle.cc_program.specs.declared.value.Value.{Value}
use Rattle.cc_steps.specs.declared.content.Content.{Content}
use Rattle.cc_steps.specs.declared.content.Content.TheVariants.{Gone, Unwritten, Holds}
use Rattle.cc_steps.specs.declared.event.End.{End}
use Rattle.cc_steps.specs.declared.event.End.TheVariants.{Exit, Trap, Starved}
use Rattle.cc_steps.specs.declared.event.Event.{Event}
use Rattle.cc_steps.specs.declared.event.Event.TheVariants as event
use Rattle.cc_steps.specs.Access.{content, local_content, with_locals, is_open, with_local}
use Rattle.cc_steps.specs.Rows.{rows_of}
use Rattle.cc_steps.specs.State.{Active, IsSameCall, Memory, State, locals_with}
use Rattle.cc_steps.specs.Step.{stopped, with_stack, with_flag, with_event, static_content, content_at, written, number_in, gives_nothing, marked, did, cell_position, has_read, input_read, read, has_written, write, activation, opened_if, call, return_mark, returned, fallen, perform, proceed}
use Rattle.cc_steps.specs.Turn.{is_going, only_handler}
use Rattle.cc_meaning_simulations.specs.Bodies.{AddsScalars, all_extended, extended}
use Rattle.cc_meaning_simulations.specs.LocalSimulations.{AgreeOnVisible, AreAlike, AreFitting, LocalRunning, LocalSuspended, answer_mark, content_mark, input_mark, is_action_visible, is_cell_visible, is_root_visible, is_visible}
use Rattle.cc_meaning_simulations.specs.LocalSteps.{LocalState, Locals, after_write, begun_state, local_state, local_state_of}
use Rattle.cc_meaning_simulations.specs.StepSimulations.{Related, Stacks, SuspendedStacks, going}
use Rattle.cc_meaning_simulations.specs.Transitions.{Aborts, FallsOff, Jumps, Performs, Returns, Transition, control_state, marked_control, transition}
use Rattle.cc_steps.proofs.CellsApart.{elsewhere, written_here}
use Rattle.cc_meaning_simulations.proofs.LocalStepLemmas.{begun-local_state, differ}
use Rattle.cc_meaning_simulations.proofs.MoreLocals.{funcs_same, gives_same, locals_alike, locals_begin, position_same}
use Rattle.cc_meaning_simulations.proofs.TransitionLemmas.{Becomes, becomes, jumped, marked-control, marked-keeps}

-- any mark fits, and any arguments are passed
abbrev pub any_mark : LocalState → Mark → Type 0
any_mark p m = Unit {0}

abbrev pub any_arguments : ℕ → ℕ → List Value → Type 0
any_arguments number id args = Unit {0}

pub any_fitting : (p : Program) (m : Memory) (a : Active) (below : List Active) (o : ℕ) → AreFitting any_mark any_arguments p m a below o
any_fitting p m a below o = record { actions = λ x e k h. tt; returns = λ b rest e h v r. tt; calls = λ id args e. tt }

module _ (more : Func → List Named) (new : Func → List Stmt) (P : Program) (scalars : AddsScalars more) (hidden : ℕ → ℕ → Bool) (Meets Waits : LocalState → LocalState → Type 0) (Fits : LocalState → Mark → Type 0) (Opens : ℕ → ℕ → List Value → Type 0)
    (marked_meets : (q p : LocalState) → Waits q p → (m : Mark) → Fits p m → Meets (local_state (marked_control (all_extended more new P) q.control m) q.locals) (local_state (marked_control P p.control m) p.locals)) where
  abbrev pub Q : Program
  Q = all_extended more new P

  abbrev Alike : LocalState → LocalState → Transition → Transition → Type 0
  Alike q p x y = AreAlike hidden Meets Waits q p x y

  abbrev Same : ℕ → Locals → Locals → Type 0
  Same f ql pl = AgreeOnVisible hidden f ql pl

  abbrev pub Suspended : Bool → Active → Active → Type 0
  Suspended called q p = LocalSuspended hidden Meets Waits called q p

  abbrev pub Running : Memory → Active → Memory → Active → Type 0
  Running m q n p = LocalRunning hidden Meets Waits Q P m q n p

  abbrev pub Below : Bool → List Active → List Active → Type 0
  Below called qs ps = SuspendedStacks Suspended called qs ps

  abbrev pub RelatedSeen : State → State → Type 0
  RelatedSeen s t = Related Suspended Running Q P s t

  handler_same : (f : Option Func) → only_handler (option_map (extended more new) f) ≡ option_map (extended more new) (only_handler f)
  handler_same None = refl
  handler_same (Some f) = either (is_some f.entry)
    where
      either : (b : Bool) → (if b then Some (extended more new f) else None) ≡ option_map (extended more new) (if b then Some f else None)
      either true = refl
      either false = refl

  pub handlers_same : (h : ℕ) → only_handler (slice_get Q.funcs h) ≡ option_map (extended more new) (only_handler (slice_get P.funcs h))
  handlers_same h = ap only_handler (funcs_same more new P h) ∙ handler_same (slice_get P.funcs h)

  -- ---- states that are related, but for what is seen of them

  abbrev pub On : List Active → List Active → Type 0
  On [] [] = ⊥
  On (q ∷ qs) (p ∷ ps) = IsSameCall q p × Suspended false q p × Below (not p.handler) qs ps
  On [] (p ∷ ps) = ⊥
  On (q ∷ qs) [] = ⊥

  pub record Agree (s t : State) : Type 0 where
    pub memory : s.memory ≡ t.memory
    pub end : s.end ≡ t.end
    pub alive : is_going t.end ≡ true → (s.opened ≡ t.opened) × On s.stack t.stack

  goes_on : (m : Memory) (q p : Active) (qs ps : List Active) (o : ℕ) → IsSameCall q p → Suspended false q p → Below (not p.handler) qs ps → Agree (going m (q ∷ qs) o) (going m (p ∷ ps) o)
  goes_on m q p qs ps o k j h = record { memory = refl; end = refl; alive = λ g. (refl, (k, j, h)) }

  over : {A : Type 0} (e : End) → is_going e ≡ false → is_going e ≡ true → A
  over e h k = absurd (cc)

  pub stops : (s t : State) (e : End) → is_going e ≡ false → s.memory ≡ t.memory → Agree (stopped s e) (stopped t e)
  stops s t e h i = record { memory = i; end = refl; alive = λ g. over e h g }

  on_seen : (m n : Memory) (qs ps : List Active) → m ≡ n → rows_of Q m.trace ≡ rows_of P n.trace → On qs ps → Stacks Suspended Running m n qs ps
  on_seen m n (q ∷ qs) (p ∷ ps) e r h = (h.0, (e, h.1, r), h.2)
  on_seen m n [] [] e r h = absurd h
  on_seen m n [] (p ∷ ps) e r h = absurd h
  on_seen m n (q ∷ qs) [] e r h = absurd h

  -- the source's state says how its events are spelled
  pub seen_so : (s t : State) → Agree s t → rows_of Q t.memory.trace ≡ rows_of P t.memory.trace → RelatedSeen s t
  seen_so s t h r =
      let rows : rows_of Q s.memory.trace ≡ rows_of P t.memory.trace = ap (λ (m : Memory). rows_of Q m.trace) h.memory ∙ r in
      record { rows = rows; end = h.end; alive = λ g. let a = h.alive g in (a.0, on_seen s.memory t.memory s.stack t.stack h.memory rows a.1) }

  local_state_marked : (p : Program) (a : Active) (m : Mark) → local_state_of (marked p a m) ≡ local_state (marked_control p (control_state a) m) a.locals
  local_state_marked p a m = λ i. local_state (marked-control p a m i) ((marked-keeps p a m).locals i)

  -- one more mark
  after_mark : (q p : Active) (m : Mark) → Fits (local_state_of p) m → IsSameCall q p → Suspended true q p → IsSameCall (marked Q q m) (marked P p m) × Suspended false (marked Q q m) (marked P p m)
  after_mark q p m fit k s =
      let x = marked-keeps Q q m in
      let y = marked-keeps P p m in (
        record {
          number = x.call.number ∙ k.number ∙ sym y.call.number;
          func = x.call.func ∙ k.func ∙ sym y.call.func;
          handler = x.call.handler ∙ k.handler ∙ sym y.call.handler;
        },
        (
          (λ local h. ap (λ (l : Locals). slice_get l local) x.locals ∙ s.0 local (ap (λ (f : ℕ). hidden f local) (sym y.call.func) ∙ h) ∙ sym (ap (λ (l : Locals). slice_get l local) y.locals)),
          subst (λ (a : LocalState). Meets a (local_state_of (marked P p m))) (sym (local_state_marked Q q m)) (subst (λ (a : LocalState). Meets (local_state (marked_control Q (control_state q) m) q.locals) a) (sym (local_state_marked P p m)) (marked_meets (local_state_of q) (local_state_of p) s.1 m fit)),
        ),
      )

  marks : (m : Memory) (q p : Active) (qs ps : List Active) (o : ℕ) (k : Mark) → Fits (local_state_of p) k → IsSameCall q p → Suspended true q p → Below (not p.handler) qs ps →
      Agree (going m (marked Q q k ∷ qs) o) (going m (marked P p k ∷ ps) o)
  marks m q p qs ps o k fit c s h =
      let x = after_mark q p k fit c s in
      let y = marked-keeps P p k in
      goes_on m (marked Q q k) (marked P p k) qs ps o x.0 x.1 (subst (λ (b : Bool). Below (not b) qs ps) (sym y.call.handler) h)

  -- ---- locals

  not_hidden : (b : Bool) → not b ≡ true → b ≡ false
  not_hidden true h = differ hidden h
  not_hidden false h = refl

  scalar_same : (f : ℕ) (ql pl : Locals) → Same f ql pl → (local i : ℕ) → hidden f local ≡ false → content (scalar_in ql local i) ≡ content (scalar_in pl local i)
  scalar_same f ql pl h local i k = ap (λ (x : Option (List (Option Value))). content (option_and_then (λ scalars. slice_get scalars i) x)) (h local k)

  content_same : (c : Bool) (qs ps : List Active) → Below c qs ps → (number local i : ℕ) → is_visible hidden ps number local ≡ true → local_content qs number local i ≡ local_content ps number local i
  content_same c [] [] h number local i s = refl
  content_same c (q ∷ qs) (p ∷ ps) h number local i s =
      ap (λ (n : ℕ). if n == number then content (scalar_in q.locals local i) else local_content qs number local i) h.0.number ∙ by_number (content_same (not p.handler) qs ps h.2 number local i) (p.number == number) s
    where
      by_number : (is_visible hidden ps number local ≡ true → local_content qs number local i ≡ local_content ps number local i) → (b : Bool) → (if b then not (hidden p.func local) else is_visible hidden ps number local) ≡ true →
          (if b then content (scalar_in q.locals local i) else local_content qs number local i) ≡ (if b then content (scalar_in p.locals local i) else local_content ps number local i)
      by_number j true s = scalar_same p.func q.locals p.locals h.1.0 local i (not_hidden (hidden p.func local) s)
      by_number j false s = j s
  content_same c [] (p ∷ ps) h number local i s = absurd h
  content_same c (q ∷ qs) [] h number local i s = absurd h

  open_same : (c : Bool) (qs ps : List Active) → Below c qs ps → (number : ℕ) → is_open qs number ≡ is_open ps number
  open_same c [] [] h number = refl
  open_same c (q ∷ qs) (p ∷ ps) h number =
      ap (λ (n : ℕ). if n == number then true else is_open qs number) h.0.number ∙ ap (λ (b : Bool). if p.number == number then true else b) (open_same (not p.handler) qs ps h.2 number)
  open_same c [] (p ∷ ps) h number = absurd h
  open_same c (q ∷ qs) [] h number = absurd h

  abbrev writes : Active → ℕ → ℕ → Value → Active
  writes a local i v = with_locals a (with_scalar a.locals local i (Some v))

  writes_call : (q p : Active) (local i : ℕ) (v : Value) → IsSameCall q p → IsSameCall (writes q local i v) (writes p local i v)
  writes_call q p local i v k = record { number = k.number; func = k.func; handler = k.handler }

  same_written : (f : ℕ) (ql pl : Locals) (local i : ℕ) (v : Value) → hidden f local ≡ false → Same f ql pl → Same f (with_scalar ql local i (Some v)) (with_scalar pl local i (Some v))
  same_written f ql pl local i v h s other k = by_eq (local == other) refl
    where
      by_eq : (b : Bool) → (local == other) ≡ b → slice_get (with_scalar ql local i (Some v)) other ≡ slice_get (with_scalar pl local i (Some v)) other
      by_eq true e =
          let same : local ≡ other = eqb-true local other e in
          subst (λ (n : ℕ). slice_get (with_scalar ql local i (Some v)) n ≡ slice_get (with_scalar pl local i (Some v)) n) same
          (written_here ql local i (Some v) ∙ ap (option_map (λ (x : List (Option Value)). slice_set x i (Some v))) (s local h) ∙ sym (written_here pl local i (Some v)))
      by_eq false e =
          let apart : local ≡ other → ⊥ = λ z. differ hidden (sym e ∙ eq-eqb local other z) in
          elsewhere ql local other i (Some v) apart ∙ s other k ∙ sym (elsewhere pl local other i (Some v) apart)

  module _ (shown : (id : ℕ) (f : Func) → slice_get P.funcs id ≡ Some f → (local : ℕ) → hidden id local ≡ false → (nat_lt local (length f.locals) ≡ true) ⊎ (more f ≡ []))
      (meets_after_write : (q p : LocalState) → Meets q p → q.control.func ≡ p.control.func → (local i : ℕ) (v : Value) → hidden p.control.func local ≡ false → Meets (after_write q local i v) (after_write p local i v))
      (waits_after_write : (q p : LocalState) → Waits q p → q.control.func ≡ p.control.func → (local i : ℕ) (v : Value) → hidden p.control.func local ≡ false → Waits (after_write q local i v) (after_write p local i v))
      (fits_after_write : (p : LocalState) (m : Mark) (local i : ℕ) (v : Value) → hidden p.control.func local ≡ false → Fits p m → Fits (after_write p local i v) m) where
    writes_suspended : (c : Bool) (q p : Active) (local i : ℕ) (v : Value) → q.func ≡ p.func → hidden p.func local ≡ false → Suspended c q p → Suspended c (writes q local i v) (writes p local i v)
    writes_suspended true q p local i v f h s = (same_written p.func q.locals p.locals local i v h s.0, waits_after_write _ _ s.1 f local i v h)
    writes_suspended false q p local i v f h s = (same_written p.func q.locals p.locals local i v h s.0, meets_after_write _ _ s.1 f local i v h)

    written_stacks : (c : Bool) (qs ps : List Active) → Below c qs ps → (number local i : ℕ) (v : Value) → is_visible hidden ps number local ≡ true → Below c (with_local qs number local i v) (with_local ps number local i v)
    written_stacks c [] [] h number local i v s = tt
    written_stacks c (q ∷ qs) (p ∷ ps) h number local i v s =
        subst (λ (n : ℕ). Below c (if n == number then writes q local i v ∷ qs else q ∷ with_local qs number local i v) (if p.number == number then writes p local i v ∷ ps else p ∷ with_local ps number local i v))
        (sym h.0.number) (by_number (written_stacks (not p.handler) qs ps h.2 number local i v) (p.number == number) s)
      where
        by_number : (is_visible hidden ps number local ≡ true → Below (not p.handler) (with_local qs number local i v) (with_local ps number local i v)) → (b : Bool) → (if b then not (hidden p.func local) else is_visible hidden ps number local) ≡ true →
            Below c (if b then writes q local i v ∷ qs else q ∷ with_local qs number local i v) (if b then writes p local i v ∷ ps else p ∷ with_local ps number local i v)
        by_number j true s = (writes_call q p local i v h.0, writes_suspended c q p local i v h.0.func (not_hidden (hidden p.func local) s) h.1, h.2)
        by_number j false s = (h.0, h.1, j s)
    written_stacks c [] (p ∷ ps) h number local i v s = absurd h
    written_stacks c (q ∷ qs) [] h number local i v s = absurd h

    -- ---- a function that is opened

    pub begun_suspended : (number id : ℕ) (handler : Bool) (args : List Value) (f : Func) → slice_get P.funcs id ≡ Some f → Meets (local_state_of (activation Q number id handler args (extended more new f))) (local_state_of (activation P number id handler args f)) →
        Suspended false (activation Q number id handler args (extended more new f)) (activation P number id handler args f)
    begun_suspended number id handler args f e j = ((λ local h. by_shown local (shown id f e local h)), j)
      where
        by_shown : (local : ℕ) → (nat_lt local (length f.locals) ≡ true) ⊎ (more f ≡ []) → slice_get (locals_with Q args (f.locals ++ more f)) local ≡ slice_get (locals_with P args f.locals) local
        by_shown local (inl h) = locals_begin more new P P Q refl args f.locals (more f) local h
        by_shown local (inr h) = ap (λ (l : Locals). slice_get l local) (locals_alike more new P P Q refl args f.locals (more f) h)

    -- ---- the same action

    module _ (m : Memory) (q p : Active) (qs ps : List Active) (o : ℕ) (k : IsSameCall q p) (s : Suspended true q p) (h : Below (not p.handler) qs ps) where
      abbrev Qs : State
      Qs = going m (q ∷ qs) o

      abbrev Ps : State
      Ps = going m (p ∷ ps) o

      abbrev whole : Below true (q ∷ qs) (p ∷ ps)
      whole = (k, s, h)

      abbrev Fit : Mark → Type 0
      Fit x = Fits (local_state_of p) x

      done : (n : Memory) (x : Mark) → Fit x → Agree (going n (marked Q q x ∷ qs) o) (going n (marked P p x ∷ ps) o)
      done n x fit = marks n q p qs ps o x fit k s h

      seen : (b : Bool) (e : Event) (n : Memory) (x : Mark) → Fit x → Agree (did Q (with_event b (going n (q ∷ qs) o) e) x) (did P (with_event b (going n (p ∷ ps) o) e) x)
      seen true e n x fit = done _ x fit
      seen false e n x fit = done n x fit

      bad_read : (b : Bool) → ((x : Mark) → (if b then Some (Gave None) else None) ≡ Some x → Fit x) → Agree (if b then did Q Qs (Gave None) else stopped Qs Trap) (if b then did P Ps (Gave None) else stopped Ps Trap)
      bad_read true fit = done m (Gave None) (fit (Gave None) refl)
      bad_read false fit = stops Qs Ps Trap refl refl

      has_read_same : (c : Cell) (manner : Manner) (x : Content) → ((k : Mark) → content_mark manner x ≡ Some k → Fit k) → Agree (has_read Q Qs c manner x) (has_read P Ps c manner x)
      has_read_same c manner Gone fit = stops Qs Ps Trap refl refl
      has_read_same c manner Unwritten fit = bad_read manner.may_be_bad fit
      has_read_same c manner (Holds v) fit = seen manner.is_event (event.Read c v) m (Gave (Some v)) (fit (Gave (Some v)) refl)

      input_same : (d : ℕ) (device : Option Device) (inputs : List ℤ) → ((k : Mark) → input_mark P device inputs ≡ Some k → Fit k) → Agree (input_read Q Qs d device inputs) (input_read P Ps d device inputs)
      input_same d None inputs fit = stops Qs Ps Trap refl refl
      input_same d (Some device) [] fit = stops Qs Ps Starved refl refl
      input_same d (Some device) (n ∷ inputs) fit = done _ _ (fit _ refl)

      position_alike : (r : Root) (path : List Part) → cell_position Q r path ≡ cell_position P r path
      position_alike r path = position_same more new P scalars r path

      held_same : (r : Root) (path : List Part) → is_root_visible hidden (p ∷ ps) r ≡ true → content_at Qs r (cell_position Q r path) ≡ content_at Ps r (cell_position P r path)
      held_same (root.Static i) path z = ap (λ (n : ℕ). static_content (scalar_in m.statics i n)) (position_alike (root.Static i) path)
      held_same (root.Auto number f local) path z =
          ap (λ (n : ℕ). local_content (q ∷ qs) number local n) (position_alike (root.Auto number f local) path) ∙ content_same true (q ∷ qs) (p ∷ ps) whole number local (cell_position P (root.Auto number f local) path) z

      read_same : (c : Cell) (manner : Manner) → ((k : Mark) → answer_mark P Ps (Read c manner) ≡ Some k → Fit k) → is_cell_visible hidden (p ∷ ps) c ≡ true → Agree (read Q Qs c manner) (read P Ps c manner)
      read_same (cell.Device d) manner fit z = input_same d (slice_get P.devices d) m.inputs fit
      read_same (cell.At r path) manner fit z =
          subst (λ (x : Content). Agree (has_read Q Qs (cell.At r path) manner x) (has_read P Ps (cell.At r path) manner (content_at Ps r (cell_position P r path)))) (sym (held_same r path z))
          (has_read_same (cell.At r path) manner (content_at Ps r (cell_position P r path)) fit)

      -- a write to a local of one of the activations
      local_written : Fit Did → (b e : Bool) (c : Cell) (number local i : ℕ) (v : Value) → (if b then not (hidden p.func local) else is_visible hidden ps number local) ≡ true →
          Agree (did Q (with_event e (with_stack Qs (if b then writes q local i v ∷ qs else q ∷ with_local qs number local i v)) (event.Write c v)) Did)
          (did P (with_event e (with_stack Ps (if b then writes p local i v ∷ ps else p ∷ with_local ps number local i v)) (event.Write c v)) Did)
      local_written fit true true c number local i v z =
          marks _ (writes q local i v) (writes p local i v) qs ps o Did (fits_after_write (local_state_of p) Did local i v (not_hidden (hidden p.func local) z) fit) (writes_call q p local i v k) (writes_suspended true q p local i v k.func (not_hidden (hidden p.func local) z) s) h
      local_written fit true false c number local i v z =
          marks m (writes q local i v) (writes p local i v) qs ps o Did (fits_after_write (local_state_of p) Did local i v (not_hidden (hidden p.func local) z) fit) (writes_call q p local i v k) (writes_suspended true q p local i v k.func (not_hidden (hidden p.func local) z) s) h
      local_written fit false true c number local i v z = marks _ q p _ _ o Did fit k s (written_stacks (not p.handler) qs ps h number local i v z)
      local_written fit false false c number local i v z = marks m q p _ _ o Did fit k s (written_stacks (not p.handler) qs ps h number local i v z)

      opened_written : Fit Did → (b e : Bool) (c : Cell) (number local i : ℕ) (v : Value) → is_visible hidden (p ∷ ps) number local ≡ true →
          Agree (has_written Q c e v Qs (if b then Some (with_stack Qs (with_local (q ∷ qs) number local i v)) else None))
          (has_written P c e v Ps (if b then Some (with_stack Ps (with_local (p ∷ ps) number local i v)) else None))
      opened_written fit false e c number local i v z = stops Qs Ps Trap refl refl
      opened_written fit true e c number local i v z =
          subst
          (λ (n : ℕ). Agree (did Q (with_event e (with_stack Qs (if n == number then writes q local i v ∷ qs else q ∷ with_local qs number local i v)) (event.Write c v)) Did)
          (did P (with_event e (with_stack Ps (if p.number == number then writes p local i v ∷ ps else p ∷ with_local ps number local i v)) (event.Write c v)) Did))
          (sym k.number) (local_written fit (p.number == number) e c number local i v z)

      written_same : Fit Did → (r : Root) (c : Cell) (e : Bool) (i : ℕ) (v : Value) → is_root_visible hidden (p ∷ ps) r ≡ true → Agree (has_written Q c e v Qs (written Qs r i v)) (has_written P c e v Ps (written Ps r i v))
      written_same fit (root.Static j) c e i v z = seen e (event.Write c v) _ Did fit
      written_same fit (root.Auto number f local) c e i v z =
          subst (λ (b : Bool). Agree (has_written Q c e v Qs (if b then Some (with_stack Qs (with_local (q ∷ qs) number local i v)) else None)) (has_written P c e v Ps (written Ps (root.Auto number f local) i v)))
          (sym (open_same true (q ∷ qs) (p ∷ ps) whole number)) (opened_written fit (is_open (p ∷ ps) number) e c number local i v z)

      write_same : Fit Did → (c : Cell) (e : Bool) (v : Value) → is_cell_visible hidden (p ∷ ps) c ≡ true → Agree (write Q Qs c e v) (write P Ps c e v)
      write_same fit (cell.Device d) e v z = done _ Did fit
      write_same fit (cell.At r path) e v z =
          subst (λ (i : ℕ). Agree (has_written Q (cell.At r path) e v Qs (written Qs r i v)) (write P Ps (cell.At r path) e v)) (sym (position_alike r path))
          (written_same fit r (cell.At r path) e (cell_position P r path) v z)

      module _ (fresh : (number id : ℕ) (handler : Bool) (args : List Value) (f : Func) → slice_get P.funcs id ≡ Some f → Opens number id args →
          Meets (local_state_of (activation Q number id handler args (extended more new f))) (local_state_of (activation P number id handler args f))) where
        opened_same : (id : ℕ) (args : List Value) (f : Option Func) → Opens o id args → slice_get P.funcs id ≡ f → Agree (opened_if Q Qs id args (option_map (extended more new) f)) (opened_if P Ps id args f)
        opened_same id args None opens e = stops Qs Ps Trap refl refl
        opened_same id args (Some f) opens e =
            goes_on m (activation Q o id false args (extended more new f)) (activation P o id false args f) (q ∷ qs) (p ∷ ps) (o + 1) (record { number = refl; func = refl; handler = refl })
            (begun_suspended o id false args f e (fresh o id false args f e opens)) whole

        call_same : (a : Address) (args : List Value) → ((id : ℕ) → a ≡ address.Func id → Opens o id args) → Agree (call Q Qs a args) (call P Ps a args)
        call_same address.Null args opens = stops Qs Ps Trap refl refl
        call_same (address.Func f) args opens =
            subst (λ (g : Option Func). Agree (opened_if Q Qs f args g) (opened_if P Ps f args (slice_get P.funcs f))) (sym (funcs_same more new P f)) (opened_same f args (slice_get P.funcs f) (opens f refl) refl)
        call_same (address.At object path index count) args opens = stops Qs Ps Trap refl refl

        perform_same : (x : Action) → ((k : Mark) → answer_mark P Ps x ≡ Some k → Fit k) → ((id : ℕ) (args : List Value) → x ≡ Call (address.Func id) args → Opens o id args) → is_action_visible hidden (p ∷ ps) x ≡ true → Agree (perform Q Qs x) (perform P Ps x)
        perform_same (Read c manner) fit opens z = read_same c manner fit z
        perform_same (Write c e v) fit opens z = write_same (fit Did refl) c e v z
        perform_same (Choose b) fit opens z = done m (Chose b) (fit (Chose b) refl)
        perform_same (Call a args) fit opens z = call_same a args (λ id e. opens id args (ap (λ (x : Address). Call x args) e))
        perform_same (Flag on) fit opens z = done _ Did (fit Did refl)
        perform_same Save fit opens z = done _ _ (fit _ refl)

    -- ---- returns

    return_same : (q p : Active) (v : Value) → IsSameCall q p → return_mark Q q.func v ≡ return_mark P p.func v
    return_same q p v k = ap (λ (b : Bool). if b then Did else Gave (Some v)) (gives_same more new P q.func) ∙ ap (λ (f : ℕ). return_mark P f v) k.func

    -- the one below is left a mark that fits
    abbrev Gives : Active → List Active → Value → Type 0
    Gives p ps v = (c : Active) (rest : List Active) → ps ≡ c ∷ rest → p.handler ≡ false → Fits (local_state_of c) (return_mark P p.func v)

    pub returned_same : (m : Memory) (q p : Active) (qs ps : List Active) (o : ℕ) (v : Value) → Gives p ps v → IsSameCall q p → Below (not p.handler) qs ps → Agree (returned Q (going m (q ∷ qs) o) q qs v) (returned P (going m (p ∷ ps) o) p ps v)
    returned_same m q p [] [] o v fit k h = stops (going m [] o) (going m [] o) (Exit (number_in v)) refl refl
    returned_same m q p (b ∷ qs) (c ∷ ps) o v fit k h =
        subst (λ (x : Bool). Agree (if x then with_flag (going m (b ∷ qs) o) true else going m (marked Q b (return_mark Q q.func v) ∷ qs) o) (returned P (going m (p ∷ c ∷ ps) o) p (c ∷ ps) v)) (sym k.handler)
        (subst (λ (x : Mark). Agree (if p.handler then with_flag (going m (b ∷ qs) o) true else going m (marked Q b x ∷ qs) o) (returned P (going m (p ∷ c ∷ ps) o) p (c ∷ ps) v)) (sym (return_same q p v k))
        (by_handler p.handler refl h))
      where
        by_handler : (x : Bool) → p.handler ≡ x → Below (not x) (b ∷ qs) (c ∷ ps) →
            Agree (if x then with_flag (going m (b ∷ qs) o) true else going m (marked Q b (return_mark P p.func v) ∷ qs) o) (if x then with_flag (going m (c ∷ ps) o) true else going m (marked P c (return_mark P p.func v) ∷ ps) o)
        by_handler true e s = goes_on _ b c qs ps o s.0 s.1 s.2
        by_handler false e s = marks m b c qs ps o (return_mark P p.func v) (fit c ps refl e) s.0 s.1 s.2
    returned_same m q p [] (c ∷ ps) o v fit k h = absurd h
    returned_same m q p (b ∷ qs) [] o v fit k h = absurd h

    pub fallen_same : (m : Memory) (q p : Active) (qs ps : List Active) (o : ℕ) → ((gives_nothing (slice_get P.funcs p.func) || (p.func == P.main)) ≡ true → Gives p ps no_value) → IsSameCall q p → Below (not p.handler) qs ps → Agree (fallen Q (going m (q ∷ qs) o) q qs) (fallen P (going m (p ∷ ps) o) p ps)
    fallen_same m q p qs ps o fit k h =
        subst (λ (x : Bool). Agree (if x || (q.func == P.main) then returned Q (going m (q ∷ qs) o) q qs no_value else stopped (going m (q ∷ qs) o) Trap) (fallen P (going m (p ∷ ps) o) p ps)) (sym (gives_same more new P q.func))
        (subst (λ (f : ℕ). Agree (if gives_nothing (slice_get P.funcs f) || (f == P.main) then returned Q (going m (q ∷ qs) o) q qs no_value else stopped (going m (q ∷ qs) o) Trap) (fallen P (going m (p ∷ ps) o) p ps)) (sym k.func)
        (by_result (gives_nothing (slice_get P.funcs p.func) || (p.func == P.main)) refl))
      where
        by_result : (x : Bool) → (gives_nothing (slice_get P.funcs p.func) || (p.func == P.main)) ≡ x → Agree (if x then returned Q (going m (q ∷ qs) o) q qs no_value else stopped (going m (q ∷ qs) o) Trap) (if x then returned P (going m (p ∷ ps) o) p ps no_value else stopped (going m (p ∷ ps) o) Trap)
        by_result true e = returned_same m q p qs ps o no_value (fit e) k h
        by_result false e = stops (going m (q ∷ qs) o) (going m (p ∷ ps) o) Trap refl refl

    -- ---- the same transition

    module _ (begins : (number id : ℕ) (args : List Value) (f : Func) → slice_get P.funcs id ≡ Some f → Opens number id args → Meets (begun_state Q number id args (extended more new f)) (begun_state P number id args f)) where
      pub fresh : (number id : ℕ) (handler : Bool) (args : List Value) (f : Func) → slice_get P.funcs id ≡ Some f → Opens number id args →
          Meets (local_state_of (activation Q number id handler args (extended more new f))) (local_state_of (activation P number id handler args f))
      fresh number id handler args f e opens =
          subst (λ (s : LocalState). Meets s (local_state_of (activation P number id handler args f))) (sym (begun-local_state Q number id handler args (extended more new f)))
          (subst (λ (s : LocalState). Meets (begun_state Q number id args (extended more new f)) s) (sym (begun-local_state P number id handler args f)) (begins number id args f e opens))

      -- what comes of p's state is as it should be, where this is its transition
      pub record Fitting (p : Active) (ps : List Active) (m : Memory) (o : ℕ) (e : Transition) : Type 0 where
        pub actions : (x : Action) → e ≡ Performs x → (k : Mark) → answer_mark P (going m (p ∷ ps) o) x ≡ Some k → Fits (local_state_of p) k
        pub returns : (v : Value) → e ≡ Returns v → Gives p ps v
        pub ends : e ≡ FallsOff → (gives_nothing (slice_get P.funcs p.func) || (p.func == P.main)) ≡ true → Gives p ps no_value
        pub calls : (id : ℕ) (args : List Value) → e ≡ Performs (Call (address.Func id) args) → Opens o id args

      pub fitting : (p : Active) (ps : List Active) (m : Memory) (o : ℕ) → AreFitting Fits Opens P m p ps o → Fitting p ps m o (transition P (control_state p))
      fitting p ps m o h = record {
        actions = h.actions;
        returns = λ v e c rest below called. h.returns c rest below called v (inl e);
        ends = λ e r c rest below called. h.returns c rest below called no_value (inr (e, refl, r));
        calls = h.calls;
      }

      both_by : (d e : Transition) (m : Memory) (q p : Active) (qs ps : List Active) (o : ℕ) (s t : State) → IsSameCall q p → Same p.func q.locals p.locals → Below (not p.handler) qs ps → ((x : Action) → e ≡ Performs x → is_action_visible hidden (p ∷ ps) x ≡ true) → Fitting p ps m o e →
          Becomes Q (going m (q ∷ qs) o) q qs (jumped Q q) s d → Becomes P (going m (p ∷ ps) o) p ps (jumped P p) t e → Alike (local_state_of q) (local_state_of p) d e → Agree s t
      both_by FallsOff FallsOff m q p qs ps o s t k l h z f x y a =
          subst (λ (u : State). Agree u t) (sym x) (subst (λ (u : State). Agree (fallen Q (going m (q ∷ qs) o) q qs) u) (sym y) (fallen_same m q p qs ps o (f.ends refl) k h))
      both_by (Performs v) (Performs w) m q p qs ps o s t k l h z f x y a =
          subst (λ (u : State). Agree u t) (sym (x ∙ ap (perform Q (going m (q ∷ qs) o)) a.0))
          (subst (λ (u : State). Agree (perform Q (going m (q ∷ qs) o) w) u) (sym y) (perform_same m q p qs ps o k (l, a.1) h fresh w (f.actions w refl) (λ id args e. f.calls id args (ap (λ (x : Action). Performs x) e)) (z w refl)))
      both_by Aborts Aborts m q p qs ps o s t k l h z f x y a =
          subst (λ (u : State). Agree u t) (sym x) (subst (λ (u : State). Agree (stopped (going m (q ∷ qs) o) Trap) u) (sym y) (stops (going m (q ∷ qs) o) (going m (p ∷ ps) o) Trap refl refl))
      both_by (Jumps c) (Jumps d) m q p qs ps o s t k l h z f x y a =
          subst (λ (u : State). Agree u t) (sym x.0)
          (subst (λ (u : State). Agree (going m (jumped Q q ∷ qs) o) u) (sym y.0)
          (goes_on m (jumped Q q) (jumped P p) qs ps o
          (record { number = x.2.call.number ∙ k.number ∙ sym y.2.call.number; func = x.2.call.func ∙ k.func ∙ sym y.2.call.func; handler = x.2.call.handler ∙ k.handler ∙ sym y.2.call.handler }) (
            (λ local j. ap (λ (c : Locals). slice_get c local) x.2.locals ∙ l local (ap (λ (f : ℕ). hidden f local) (sym y.2.call.func) ∙ j) ∙ sym (ap (λ (c : Locals). slice_get c local) y.2.locals)),
            subst (λ (b : LocalState). Meets b (local_state_of (jumped P p))) (sym (λ i. local_state (x.1 i) (x.2.locals i))) (subst (λ (b : LocalState). Meets (local_state c q.locals) b) (sym (λ i. local_state (y.1 i) (y.2.locals i))) a),
          )
          (subst (λ (b : Bool). Below (not b) qs ps) (sym y.2.call.handler) h)))
      both_by (Returns v) (Returns w) m q p qs ps o s t k l h z f x y a =
          subst (λ (u : State). Agree u t) (sym (x ∙ ap (returned Q (going m (q ∷ qs) o) q qs) a))
          (subst (λ (u : State). Agree (returned Q (going m (q ∷ qs) o) q qs w) u) (sym y) (returned_same m q p qs ps o w (f.returns w refl) k h))
      both_by _ _ m q p qs ps o s t k l h z f x y a = absurd a

      -- two activations that meet go on alike, above stacks that are related
      pub alike_agrees : (ps : List Active) (o : ℕ) (m : Memory) (q p : Active) → Same p.func q.locals p.locals → ((x : Action) → transition P (control_state p) ≡ Performs x → is_action_visible hidden (p ∷ ps) x ≡ true) → AreFitting Fits Opens P m p ps o →
          Alike (local_state_of q) (local_state_of p) (transition Q (control_state q)) (transition P (control_state p)) → (qs : List Active) → IsSameCall q p → Below (not p.handler) qs ps →
          Agree (proceed Q (going m (q ∷ qs) o) (q ∷ qs)) (proceed P (going m (p ∷ ps) o) (p ∷ ps))
      alike_agrees ps o m q p l z f a qs k h = both_by (transition Q (control_state q)) (transition P (control_state p)) m q p qs ps o _ _ k l h z (fitting p ps m o f) (becomes Q m q qs o) (becomes P m p ps o) a
