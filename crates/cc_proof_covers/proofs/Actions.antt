-- Each step that the running activation asks for keeps the facts.
use Rattle.std.proofs.Common.{◌≡◌, ◌⊎◌, inl, inr, ℕ, ℤ, Bool, true, false, List, [], ◌∷◌, ◌++◌, Option, Some, None, refl, ap, sym, ◌∙◌, subst, slice_get}
use Rattle.std.proofs.lemmas.Bool.{eqb-true, eq-eqb}
use Rattle.std.proofs.lemmas.Option.{same_Some}
use Rattle.std.specs.Prelude.{if◌then◌else◌, ◌==◌}
use Rattle.cc_flow_sound.specs.CcCells.Cells.{scalar_in, with_scalar}
use Rattle.cc_flow_sound.proofs.CcEval.MarkLemmas.{last_or_not, IsLast}
use Rattle.cc_flow_sound.specs.CcEval.Progress.{Waits}
use Rattle.cc_flow_sound.specs.CcEval.declared.action.Action.TheVariants.{Read, Write, Choose, Call, Flag, Save}
use Rattle.cc_flow_sound.specs.CcEval.declared.action.Action.{Action}
use Rattle.cc_flow_sound.specs.CcEval.declared.action.Manner.{Manner}
use Rattle.cc_flow_sound.specs.CcEval.declared.mark.Mark.TheVariants.{Gave, Did, Chose}
use Rattle.cc_flow_sound.specs.CcEval.declared.mark.Mark.{Mark}
use Rattle.cc_flow_sound.proofs.Opened.{all_normal}
use Rattle.cc_flow_sound.specs.Moves.{entry}
use Rattle.cc_program.specs.CcNum.Integers.{converted}
use Rattle.cc_program.specs.CcNum.Results.{one_if}
use Rattle.cc_program.specs.declared.func.Func.{Func}
use Rattle.cc_program.specs.declared.object.Device.{Device}
use Rattle.cc_program.specs.declared.program.Program.{Program}
use Rattle.cc_program.specs.declared.value.Address.TheVariants as address
use Rattle.cc_program.specs.declared.value.Address.{Address}
use Rattle.cc_program.specs.declared.value.Cell.TheVariants as cell
use Rattle.cc_program.specs.declared.value.Cell.{Cell}
use Rattle.cc_program.specs.declared.value.Part.{Part}
use Rattle.cc_program.specs.declared.value.Root.TheVariants as root
use Rattle.cc_program.specs.declared.value.Root.{Root}
use Rattle.cc_program.specs.declared.value.Value.TheVariants.{Int}
use Rattle.cc_program.specs.declared.value.Value.{Value}
use Rattle.cc_proof_covers.proofs.Below.{below_kept, mark_same, ready_same}
use Rattle.cc_proof_covers.proofs.Locals.{below_fits, content_in, others_kept, stack_kept, registers_kept}
use Rattle.cc_proof_covers.proofs.Marks.{marked_locals}
use Rattle.cc_proof_covers.proofs.Steps.{entry_there, stopped_keeps, no_marks, others_again, did_keeps, fits_by, fit_pending, none_some, from_innermost, others_same, register_keeps, reads_of, fit_at, reached_on}
use Rattle.cc_proof_covers.proofs.Written.{scalar_written, scalar_kept, scalar_at}
use Rattle.cc_proof_covers.specs.Covers.{IsDeviceValue, Running, AreLocalsIn, AreRegistersIn, AreStaticsIn, under, innermost}
use Rattle.cc_proof_covers.specs.Invariant.{MayBeWritten, ActivationFits, IsCurrentAt, IsAtPoint, StackFits, RunsAbove, Resumes, EndsAt, Fits, IsCurrent, IsReady}
use Rattle.cc_proof_covers.specs.Pending.{value_in}
use Rattle.cc_proof_covers.specs.Rules.{AllowedLocal, Flows, AllowedRegister, AllowedWrite, AllowedCall, Allowed, IsClosed}
use Rattle.cc_proof_covers.specs.Views.{View}
use Rattle.cc_flow_sound.proofs.CcStates.ListLemmas.{not_equal}
use Rattle.cc_flow_sound.proofs.CcStates.StateLemmas.{asked}
use Rattle.cc_flow_sound.specs.CcStates.States.{expression_of, IsActive, AreActive}
use Rattle.cc_flow_sound.proofs.CcSteps.MarkLemmas.{marked_call, marked_with}
use Rattle.cc_flow_sound.specs.CcSteps.Access.{content, local_content, with_locals, is_open, with_local}
use Rattle.cc_flow_sound.specs.CcSteps.State.{Active, Memory, State}
use Rattle.cc_flow_sound.specs.CcSteps.State.{IsSameCall}
use Rattle.cc_flow_sound.specs.CcSteps.Step.{stopped, with_stack, with_flag, with_statics, with_inputs, with_event, static_content, content_at, progress_at, progress_of, with_mark, marked, did, cell_position, has_read, input_read, read, has_written, write, activation, opened, opened_if, call, perform}
use Rattle.cc_flow_sound.specs.CcSteps.Turn.{running_level}
use Rattle.cc_flow_sound.specs.CcSteps.declared.content.Content.TheVariants.{Gone, Unwritten, Holds}
use Rattle.cc_flow_sound.specs.CcSteps.declared.content.Content.{Content}
use Rattle.cc_flow_sound.specs.CcSteps.declared.event.End.TheVariants.{Trap, Starved}
use Rattle.cc_flow_sound.specs.CcSteps.declared.event.Event.TheVariants as event
use Rattle.cc_flow_sound.specs.CcSteps.declared.event.Event.{Event}
use Rattle.cc_flow_sound.specs.CcSyntax.Registers.{is_register}

static_content_is : (o : Option Value) (x : Value) → static_content o ≡ Holds x → o ≡ Some x
static_content_is None x h = absurd (cc)
static_content_is (Some y) x h = let e : y ≡ x = cc in ap Some e

local_content_is : (o : Option (Option Value)) (x : Value) → content o ≡ Holds x → o ≡ Some (Some x)
local_content_is None x h = absurd (cc)
local_content_is (Some None) x h = absurd (cc)
local_content_is (Some (Some y)) x h = let e : y ≡ x = cc in ap (λ (z : Value). Some (Some z)) e

module _ (p : Program) (v : View) (closed : IsClosed p v) (normal : (g : ℕ) (f : Func) → slice_get p.funcs g ≡ Some f → all_normal p.target f f.body ≡ true) (s : State) (fits : Fits p v s) (a : Active) (below : List Active)
    (top : s.stack ≡ a ∷ below) (rest : StackFits p v (under a) s.memory below) (f : Func) (n : ℕ) (function : slice_get p.funcs a.func ≡ Some f) (runs : RunsAbove p v a.handler a.func below) (there : IsAtPoint p f a n) (reached : v.reached n)
    (registers : AreRegistersIn p v f n (value_in None a)) (held : AreLocalsIn p v f a) (ready : IsReady p v s.memory s.memory.flag a f n None) (openings : List ℕ) (active : AreActive p openings (a ∷ below)) where
  abbrev of_same : (m : Memory) → m.statics ≡ s.memory.statics → StackFits p v (under a) m below
  of_same m e = others_same p v closed normal s fits a below top rest m e

  -- ---- the statement goes on

  more_current : (m : Memory) → m.statics ≡ s.memory.statics → (mark : Mark) (action : Action) → progress_of p a (expression_of a) ≡ Waits action → IsCurrent p v m a f n action mark →
      ((front back : List Mark) (mk : Mark) → a.marks ≡ front ++ mk ∷ back → (other : Action) × (progress_at p a.number a.func front (expression_of a) ≡ Waits other) × IsCurrent p v m a f n other mk) →
      (front back : List Mark) (mk : Mark) → IsLast a.marks mark front mk → (other : Action) × (progress_at p a.number a.func front (expression_of a) ≡ Waits other) × IsCurrent p v m a f n other mk
  more_current m e mark action waits h old front back mk (inl l) =
      (action, ap (λ (fr : List Mark). progress_at p a.number a.func fr (expression_of a)) l.0 ∙ waits, subst (IsCurrent p v m a f n action) (sym l.1) h)
  more_current m e mark action waits h old front back mk (inr l) = old front l.0 mk l.1

  marked_fit : (m : Memory) → m.statics ≡ s.memory.statics → m.flag ≡ s.memory.flag → (mark : Mark) (action : Action) → progress_of p a (expression_of a) ≡ Waits action → IsCurrent p v s.memory a f n action mark →
      ActivationFits p v Running m (with_mark a mark) below
  marked_fit m e g mark action waits h =
      let same : IsReady p v m m.flag a f n None = ready_same p v closed s.memory m e a f n s.memory.flag m.flag None (subst (v.may_be n) (sym g) ready.flag) ready in
      record {
        func = f;
        function = function;
        runs = runs;
        point = n;
        result = None;
        counts = there;
        reached = reached;
        registers = registers;
        others = held;
        memory = record {
          flag = same.flag;
          cells = same.cells;
          sames = same.sames;
          marks = λ q front back mk split. more_current m e mark action waits (mark_same p v closed s.memory m e a f n action mark h) (same.marks refl) front back mk (last_or_not a.marks mark front back mk split);
        };
      }

  stay_keeps : (t : State) (mark : Mark) (action : Action) → t.stack ≡ s.stack → t.memory.statics ≡ s.memory.statics → t.memory.flag ≡ s.memory.flag → progress_of p a (expression_of a) ≡ Waits action → marked p a mark ≡ with_mark a mark →
      IsCurrent p v s.memory a f n action mark → Fits p v (did p t mark)
  stay_keeps t mark action st e g waits same h =
      did_keeps p v t a below mark (st ∙ top) (subst (AreStaticsIn p v) (sym e) fits.statics)
      (subst (λ (b : Active). ActivationFits p v Running t.memory b below) (sym same) (marked_fit t.memory e g mark action waits h)) (of_same t.memory e)

  -- ---- reads

  flag_event : (b : Bool) (t : State) (e : Event) → ((with_event b t e).memory.statics ≡ t.memory.statics) × ((with_event b t e).memory.flag ≡ t.memory.flag) × ((with_event b t e).stack ≡ t.stack)
  flag_event false t e = (refl, refl, refl)
  flag_event true t e = (refl, refl, refl)

  abbrev own_active : IsActive p openings a
  own_active = active.0

  holds_current : (object : Root) (path : List Part) (manner : Manner) (x : Value) → progress_of p a (expression_of a) ≡ Waits (Read (cell.At object path) manner) → Allowed p v s.memory a f n (Read (cell.At object path) manner) →
      content_at s object (cell_position p object path) ≡ Holds x → IsCurrentAt p v s.memory a f n (cell.At object path) x
  holds_current (root.Static i) path manner x waits h e =
      let k = cell_position p (root.Static i) path in
      let is : scalar_in s.memory.statics i k ≡ Some x = static_content_is (scalar_in s.memory.statics i k) x e in (
        fits.statics i k x is,
        λ t. (let single : scalar_in s.memory.statics i 0 ≡ Some x = subst (λ (q : ℕ). scalar_in s.memory.statics i q ≡ Some x) (h.0 t) is in (ready.cells i x t single, inl single)),
      )
  holds_current (root.Auto number id r) path manner x waits h e =
      let k = cell_position p (root.Auto number id r) path in
      let asks = asked p openings a own_active (Read (cell.At (root.Auto number id r) path) manner) waits in (
        λ same reg.
            (let own : content (scalar_in a.locals r k) ≡ Holds x =
            sym (ap (λ (st : List Active). local_content st number r k) top ∙ ap (λ (b : Bool). if b then content (scalar_in a.locals r k) else local_content below number r k) (eq-eqb a.number number (sym same))) ∙ e in
            subst (λ (q : ℕ). scalar_in a.locals r q ≡ Some (Some x)) (h.0 same reg) (local_content_is (scalar_in a.locals r k) x own)),
        λ g function' other. content_in p v closed openings number id r k x asks.2 g function' other Running s.memory s.stack (subst (AreActive p openings) (sym top) active) fits.stack e,
      )

  module _ (object : Root) (path : List Part) (manner : Manner) (waits : progress_of p a (expression_of a) ≡ Waits (Read (cell.At object path) manner)) (allowed : Allowed p v s.memory a f n (Read (cell.At object path) manner)) where
    bad_by : (b : Bool) → manner.may_be_bad ≡ b → Fits p v (if b then did p s (Gave None) else stopped s Trap)
    bad_by true bad = stay_keeps s (Gave None) (Read (cell.At object path) manner) refl refl refl waits (allowed.1 (Gave None)) (None, refl, (λ x e. absurd (cc)), λ e. bad)
    bad_by false bad = stopped_keeps p v s Trap fits

    content_keeps : (c : Content) → content_at s object (cell_position p object path) ≡ c → Fits p v (has_read p s (cell.At object path) manner c)
    content_keeps Gone e = stopped_keeps p v s Trap fits
    content_keeps Unwritten e = bad_by manner.may_be_bad refl
    content_keeps (Holds x) e =
        let t = flag_event manner.is_event s (event.Read (cell.At object path) x) in
        stay_keeps (with_event manner.is_event s (event.Read (cell.At object path) x)) (Gave (Some x)) (Read (cell.At object path) manner) t.2 t.0 t.1 waits (allowed.1 (Gave (Some x)))
        (Some x, refl, (λ y w. subst (IsCurrentAt p v s.memory a f n (cell.At object path)) (same_Some x y w) (holds_current object path manner x waits allowed e)), λ q. absurd (cc))

  device_keeps : (d : ℕ) (manner : Manner) → progress_of p a (expression_of a) ≡ Waits (Read (cell.Device d) manner) → Allowed p v s.memory a f n (Read (cell.Device d) manner) → (x : Option Device) → slice_get p.devices d ≡ x → (inputs : List ℤ) → Fits p v (input_read p s d x inputs)
  device_keeps d manner waits allowed None e inputs = stopped_keeps p v s Trap fits
  device_keeps d manner waits allowed (Some device) e [] = stopped_keeps p v s Starved fits
  device_keeps d manner waits allowed (Some device) e (z ∷ inputs) =
      let x = Int (converted z device.int p.target) in
      stay_keeps (with_event true (with_inputs s inputs) (event.Read (cell.Device d) x)) (Gave (Some x)) (Read (cell.Device d) manner) refl refl refl waits (allowed.1 (Gave (Some x)))
      (Some x, refl, (λ y w. subst (IsDeviceValue p d) (same_Some x y w) (device, z, e, refl)), λ q. absurd (cc))

  read_keeps : (at : Cell) (manner : Manner) → progress_of p a (expression_of a) ≡ Waits (Read at manner) → Allowed p v s.memory a f n (Read at manner) → Fits p v (read p s at manner)
  read_keeps (cell.Device d) manner waits h = device_keeps d manner waits h (slice_get p.devices d) refl s.memory.inputs
  read_keeps (cell.At object path) manner waits h = content_keeps object path manner waits h (content_at s object (cell_position p object path)) refl

  -- ---- the statement is done

  own_sames : (r i : ℕ) (x : Value) → v.same n r i → scalar_in a.locals r 0 ≡ Some (Some x) → scalar_in s.memory.statics i 0 ≡ Some x
  own_sames r i x h e = ready.sames r i x h e

  -- nothing is written but the memory m, which has the static objects as before
  done_fit : (m : Memory) → m.statics ≡ s.memory.statics → (k : ℕ) (mark : Mark) → EndsAt p f a k mark → Flows p v n k None None → v.may_be k m.flag → ActivationFits p v Running m (marked p a mark) below
  done_fit m e k mark ends flows flag =
      let its = marked_locals p a mark in
      fit_at p v m a (marked p a mark) below f k (marked_call p a mark) function runs ends.0 ends.1 flows.reached
      (λ r x reg w. flows.locals r x (none_some r) (registers r x reg (ap (λ (l : List (List (Option Value))). scalar_in l r 0) (sym its) ∙ w))) flag
      (λ i x t w. flows.cells i x (none_some i) (ready.cells i x t (ap (λ (l : List (List Value)). scalar_in l i 0) (sym e) ∙ w)))
      (λ r i x h w. ap (λ (l : List (List Value)). scalar_in l i 0) e ∙ own_sames r i x (flows.sames r i (none_some r) h).0 (ap (λ (l : List (List (Option Value))). scalar_in l r 0) (sym its) ∙ w))
      (others_again p v a (marked p a mark) f (marked_call p a mark) its held)

  done_keeps : (t : State) (k : ℕ) (mark : Mark) → t.stack ≡ s.stack → t.memory.statics ≡ s.memory.statics → EndsAt p f a k mark → Flows p v n k None None → v.may_be k t.memory.flag → Fits p v (did p t mark)
  done_keeps t k mark st e ends flows flag =
      did_keeps p v t a below mark (st ∙ top) (subst (AreStaticsIn p v) (sym e) fits.statics) (done_fit t.memory e k mark ends flows flag) (of_same t.memory e)

  -- ---- a static object is written

  module _ (i : ℕ) (path : List Part) (x : Value) (h : AllowedWrite p v s.memory a f n (cell.At (root.Static i) path) x) where
    abbrev q : ℕ
    q = cell_position p (root.Static i) path

    abbrev new : List (List Value)
    new = with_scalar s.memory.statics i q x

    module _ (m : Memory) (e : m.statics ≡ new) (g : m.flag ≡ s.memory.flag) where
      statics_in : AreStaticsIn p v m.statics
      statics_in j k y w = by (scalar_written s.memory.statics i q x j k y (ap (λ (l : List (List Value)). scalar_in l j k) (sym e) ∙ w))
        where
          by : ((j ≡ i) × (k ≡ q) × (y ≡ x)) ⊎ (scalar_in s.memory.statics j k ≡ Some y) → v.static_at j k y
          by (inl o) = subst (λ (z : ℕ). v.static_at z k y) (sym o.0) (subst (λ (z : ℕ). v.static_at i z y) (sym o.1) (subst (v.static_at i q) (sym o.2) h.value))
          by (inr o) = fits.statics j k y o

      cell_in : (j : ℕ) (y : Value) → v.tracked j ≡ true → (c : Bool) → i == j ≡ c → scalar_in new j 0 ≡ Some y → v.cell h.next j y
      cell_in j y t true c w =
          let same : i ≡ j = eqb-true i j c in
          let own : v.tracked i ≡ true = subst (λ (z : ℕ). v.tracked z ≡ true) (sym same) t in
          let all = h.tracked own in
          let is : y ≡ x = scalar_at s.memory.statics i q x y (subst (λ (z : ℕ). scalar_in new i z ≡ Some y) (sym all.0) (subst (λ (z : ℕ). scalar_in new z 0 ≡ Some y) (sym same) w)) in
          subst (λ (z : ℕ). v.cell h.next z y) same (subst (v.cell h.next i) (sym is) all.1)
      cell_in j y t false c w =
          let apart : i ≡ j → ⊥ = λ same. not_equal i j same c in
          h.flows.cells j y (λ o. apart (same_Some i j o)) (ready.cells j y t (sym (scalar_kept s.memory.statics i q x j 0 apart) ∙ w))

      static_fit : ActivationFits p v Running m (marked p a Did) below
      static_fit =
          let its = marked_locals p a Did in
          fit_at p v m a (marked p a Did) below f h.next (marked_call p a Did) function runs h.ends.0 h.ends.1 h.flows.reached
          (λ r y reg w. h.flows.locals r y (none_some r) (registers r y reg (ap (λ (l : List (List (Option Value))). scalar_in l r 0) (sym its) ∙ w))) (h.keeps m.flag (subst (v.may_be n) (sym g) ready.flag))
          (λ j y t w. cell_in j y t (i == j) refl (ap (λ (l : List (List Value)). scalar_in l j 0) (sym e) ∙ w))
          (λ r j y o w.
          let kept = h.flows.sames r j (none_some r) o in
          ap (λ (l : List (List Value)). scalar_in l j 0) e ∙ scalar_kept s.memory.statics i q x j 0 (λ same. kept.1 (ap Some same)) ∙ own_sames r j y kept.0 (ap (λ (l : List (List (Option Value))). scalar_in l r 0) (sym its) ∙ w))
          (others_again p v a (marked p a Did) f (marked_call p a Did) its held)

      -- all below are kept: who may write the object may enter where they were interrupted
      static_below : StackFits p v (under a) m below
      static_below =
          below_kept p v closed s.memory m i q x e h.value (λ t. (h.tracked t).0) Running a below
          (record { func = f; function = function; runs = runs; point = n; result = None; counts = there; reached = reached; registers = registers; others = held; memory = ready })
          (λ l w t. (h.tracked t).2 l (from_innermost p v (innermost p (a ∷ below)) a.func l runs.from w)) rest

    static_keeps : (b : Bool) → Fits p v (did p (with_event b (with_statics s new) (event.Write (cell.At (root.Static i) path) x)) Did)
    static_keeps false = let t = with_statics s new in did_keeps p v t a below Did top (statics_in t.memory refl refl) (static_fit t.memory refl refl) (static_below t.memory refl refl)
    static_keeps true =
        let t = with_event true (with_statics s new) (event.Write (cell.At (root.Static i) path) x) in
        did_keeps p v t a below Did top (statics_in t.memory refl refl) (static_fit t.memory refl refl) (static_below t.memory refl refl)

  -- ---- writes

  -- a register of its own
  register_write : (number id r : ℕ) (path : List Part) (is_event : Bool) (x : Value) → AllowedRegister p v s.memory a f n number id r path x → Fits p v (write p s (cell.At (root.Auto number id r) path) is_event x)
  register_write number id r path is_event x h =
      register_keeps p v closed normal s fits a below top rest f h.next r x function runs h.ends h.flows.reached h.register held h.value
      (λ z y apart reg e. h.flows.locals z y (λ o. apart (same_Some r z o)) (registers z y reg e)) (h.keeps s.memory.flag ready.flag) (λ i y t e. h.flows.cells i y (none_some i) (ready.cells i y t e))
      (λ i o. own_pair i o (h.pairs i o))
      (λ z i y apart o e. own_sames z i y (h.flows.sames z i (λ o'. apart (same_Some r z o')) o).0 e) number id path is_event h.own h.whole
    where
      own_pair : (i : ℕ) → v.same h.next r i → (scalar_in s.memory.statics i 0 ≡ Some x) ⊎ (v.may_be n true × MayBeWritten p v a.func i) → scalar_in s.memory.statics i 0 ≡ Some x
      own_pair i o (inl e) = e
      own_pair i o (inr e) =
          absurd (
          let there : IsAtPoint p f (marked p a Did) h.next = h.ends.0 in
          let c = marked_call p a Did in
          (closed.stable (marked p a Did) f h.next (record { result = None; function = ap (slice_get p.funcs) c.func ∙ function; counts = there; reached = h.flows.reached; on = h.keeps true e.0 }) i (closed.pairs h.next r i o)
          (subst (λ (g : ℕ). MayBeWritten p v g i) (sym c.func) e.1)).sames r o
          )

  -- another local, of any activation
  module _ (number id r : ℕ) (path : List Part) (x : Value) (h : AllowedLocal p v s.memory a f n number id r path x) (opened : slice_get openings number ≡ Some id) where
    abbrev place : ℕ
    place = cell_position p (root.Auto number id r) path

    abbrev new_locals : List (List (Option Value))
    new_locals = with_scalar a.locals r place (Some x)

    abbrev own_new : Active
    own_new = with_locals a new_locals

    -- its own one
    own_fit : (m : Memory) → m.statics ≡ s.memory.statics → m.flag ≡ s.memory.flag → a.func ≡ id → ActivationFits p v Running m (marked p own_new Did) below
    own_fit m e g is =
        let kept = registers_kept p v closed openings number id r place x opened h.other h.value a f function is in
        let its : (marked p own_new Did).locals ≡ new_locals = marked_locals p own_new Did in
        let c = marked_call p own_new Did in
        let s' : IsSameCall (marked p own_new Did) a = record { number = c.number; func = c.func; handler = c.handler } in
        let at : (q : ℕ) → is_register f q ≡ true → scalar_in (marked p own_new Did).locals q 0 ≡ scalar_in a.locals q 0 = λ q reg. ap (λ (l : List (List (Option Value))). scalar_in l q 0) its ∙ kept q reg in
        fit_at p v m a (marked p own_new Did) below f h.next s' function runs (subst (λ (b : Active). IsAtPoint p f b h.next) (sym (marked_with p a Did new_locals)) h.ends.0)
        (ap (λ (b : Active). b.marks) (marked_with p a Did new_locals) ∙ h.ends.1) h.flows.reached
        (λ q y reg u. h.flows.locals q y (none_some q) (registers q y reg (sym (at q reg) ∙ u))) (h.keeps m.flag (subst (v.may_be n) (sym g) ready.flag))
        (λ i y t u. h.flows.cells i y (none_some i) (ready.cells i y t (ap (λ (l : List (List Value)). scalar_in l i 0) (sym e) ∙ u)))
        (λ q i y o u.
        let old = h.flows.sames q i (none_some q) o in
        let reg = closed.pair_registers a f n None function there q i old.0 in
        ap (λ (l : List (List Value)). scalar_in l i 0) e ∙ own_sames q i y old.0 (sym (at q reg) ∙ u))
        (λ q c' y o u.
        let there' : scalar_in new_locals q c' ≡ Some (Some y) = ap (λ (l : List (List (Option Value))). scalar_in l q c') (sym its) ∙ u in
        subst (λ (z : ℕ). v.local_at z q c' y) (sym s'.func) (others_kept p v closed openings number id r place x opened h.other h.value a f is held q c' y o there'))

    module _ (m : Memory) (e : m.statics ≡ s.memory.statics) (g : m.flag ≡ s.memory.flag) where
      top_by : (t : State) → t.memory ≡ m → (c : Bool) → a.number == number ≡ c → t.stack ≡ (if c then own_new ∷ below else a ∷ with_local below number r place x) → Fits p v (did p t Did)
      top_by t tm true eq st =
          let is : a.func ≡ id = same_Some a.func id (sym own_active.number ∙ ap (slice_get openings) (eqb-true a.number number eq) ∙ opened) in
          did_keeps p v t own_new below Did st (subst (λ (z : Memory). AreStaticsIn p v z.statics) (sym tm) (subst (AreStaticsIn p v) (sym e) fits.statics))
          (subst (λ (z : Memory). ActivationFits p v Running z (marked p own_new Did) below) (sym tm) (own_fit m e g is)) (subst (λ (z : Memory). StackFits p v (under a) z below) (sym tm) (of_same m e))
      top_by t tm false eq st =
          did_keeps p v t a (with_local below number r place x) Did st (subst (λ (z : Memory). AreStaticsIn p v z.statics) (sym tm) (subst (AreStaticsIn p v) (sym e) fits.statics))
          (subst (λ (z : Memory). ActivationFits p v Running z (marked p a Did) (with_local below number r place x)) (sym tm)
          (below_fits p v closed openings number id r place x opened h.other h.value Running m (marked p a Did) below (done_fit m e h.next Did h.ends h.flows (h.keeps m.flag (subst (v.may_be n) (sym g) ready.flag)))))
          (subst (λ (z : Memory). StackFits p v (under a) z (with_local below number r place x)) (sym tm)
          (stack_kept p v closed openings number id r place x opened h.other h.value (under a) m below active.1 (of_same m e)))

    abbrev changed : List Active
    changed = with_local s.stack number r place x

    changed_is : changed ≡ (if a.number == number then own_new ∷ below else a ∷ with_local below number r place x)
    changed_is = ap (λ (st : List Active). with_local st number r place x) top

    local_keeps : (b : Bool) (e : Event) → Fits p v (did p (with_event b (with_stack s changed) e) Did)
    local_keeps false e = top_by s.memory refl refl (with_stack s changed) refl (a.number == number) refl changed_is
    local_keeps true e = let t = with_event true (with_stack s changed) e in top_by t.memory refl refl t refl (a.number == number) refl changed_is

    local_write : (is_event : Bool) → Fits p v (write p s (cell.At (root.Auto number id r) path) is_event x)
    local_write is_event = by (is_open s.stack number)
      where
        by : (b : Bool) → Fits p v (has_written p (cell.At (root.Auto number id r) path) is_event x s (if b then Some (with_stack s (with_local s.stack number r (cell_position p (root.Auto number id r) path) x)) else None))
        by true = local_keeps is_event (event.Write (cell.At (root.Auto number id r) path) x)
        by false = stopped_keeps p v s Trap fits

  write_keeps : (at : Cell) (is_event : Bool) (x : Value) → progress_of p a (expression_of a) ≡ Waits (Write at is_event x) → AllowedWrite p v s.memory a f n at x → Fits p v (write p s at is_event x)
  write_keeps (cell.Device d) is_event x waits h = done_keeps (with_event true s (event.Write (cell.Device d) x)) h.next Did refl refl h.ends h.flows (h.keeps s.memory.flag ready.flag)
  write_keeps (cell.At (root.Static i) path) is_event x waits h = static_keeps i path x h is_event
  write_keeps (cell.At (root.Auto number id r) path) is_event x waits (inl h) = register_write number id r path is_event x h
  write_keeps (cell.At (root.Auto number id r) path) is_event x waits (inr h) = local_write number id r path x h (asked p openings a own_active (Write (cell.At (root.Auto number id r) path) is_event x) waits).2 is_event

  -- ---- a call

  module _ (g : ℕ) (args : List Value) (function' : Func) (e : slice_get p.funcs g ≡ Some function') (h : AllowedCall p v s.memory a f n (address.Func g) args) where
    called : Fits p v (opened p s g false args function')
    called =
        let w = h function' e in
        let b = activation p s.opened g false args function' in
        let k = entry p g in
        fits_by p v (opened p s g false args function') b (a ∷ below) (ap (λ (st : List Active). b ∷ st) top) fits.statics
        (record {
          func = function';
          function = e;
          runs = record {
            from = reached_on p v (innermost p (a ∷ below)) a.func g w.by_main w.by_handler w.from runs.from;
            level = w.levels (running_level p (a ∷ below)) runs.level;
            enters = λ t. absurd (cc);
          };
          point = k;
          result = None;
          counts = entry_there p v closed normal s.opened g false args function' e;
          reached = w.opens.reached;
          registers = w.registers;
          others = w.others;
          memory = record {
            flag = w.opens.flags s.memory.flag ready.flag;
            cells = λ i x t c. w.opens.cells i x (ready.cells i x t c);
            sames = λ r i x o c. absurd (w.opens.sames r i o);
            marks = λ q. no_marks p v s.memory b function' k refl;
          };
        }) (
          record { func = f; function = function; runs = runs; point = n; result = None; counts = there; reached = reached; registers = registers; others = held; memory = (refl, w.awaits, reads_of p v s.memory a f n registers (ready.marks refl)) },
          rest,
        )

  opened_keeps : (g : ℕ) (args : List Value) → AllowedCall p v s.memory a f n (address.Func g) args → (o : Option Func) → slice_get p.funcs g ≡ o → Fits p v (opened_if p s g args o)
  opened_keeps g args h None e = stopped_keeps p v s Trap fits
  opened_keeps g args h (Some function') e = called g args function' e h

  call_keeps : (callee : Address) (args : List Value) → AllowedCall p v s.memory a f n callee args → Fits p v (call p s callee args)
  call_keeps address.Null args h = stopped_keeps p v s Trap fits
  call_keeps (address.Func g) args h = opened_keeps g args h (slice_get p.funcs g) refl
  call_keeps (address.At object path index count) args h = stopped_keeps p v s Trap fits

  -- ---- the flag is saved

  abbrev saved : State
  saved = with_flag s false

  abbrev given_flag : Value
  given_flag = Int (one_if s.memory.flag)

  save_keeps : (k : ℕ) (result : Option ℕ) → Flows p v n k result None → v.may_be k false → Resumes p v f a k result (Gave (Some given_flag)) → ((r : ℕ) → result ≡ Some r → v.local k r given_flag) → ((r i : ℕ) → result ≡ Some r → v.same k r i → ⊥) →
      Fits p v (did p saved (Gave (Some given_flag)))
  save_keeps k None flows flag resumes given pairs = done_keeps saved k (Gave (Some given_flag)) refl refl resumes flows flag
  save_keeps k (Some r) flows flag resumes given pairs =
      let w = resumes given_flag refl in
      did_keeps p v saved a below (Gave (Some given_flag)) top fits.statics
      (subst (λ (b : Active). ActivationFits p v Running saved.memory b below) (sym w.1)
      (fit_pending p v saved.memory a (with_mark a (Gave (Some given_flag))) below f k r given_flag (record { number = refl; func = refl; handler = refl }) function runs w.0 flows.reached (given r refl)
      (λ z y apart reg e. flows.locals z y (λ o. apart (same_Some r z o)) (registers z y reg e)) flag (λ i y t e. flows.cells i y (none_some i) (ready.cells i y t e)) (λ i o. pairs r i refl o)
      (λ z i y apart o e. own_sames z i y (flows.sames z i (λ o'. apart (same_Some r z o')) o).0 e) held))
      (of_same saved.memory refl)

  -- ---- all of them

  pub action_keeps : (action : Action) → progress_of p a (expression_of a) ≡ Waits action → Fits p v (perform p s action)
  action_keeps action waits = by action waits (closed.steps s.memory a f n
      (record { openings = openings; active = own_active; function = function; there = there; reached = reached; registers = registers; others = held; memory = ready }) action waits)
    where
      by : (action : Action) → progress_of p a (expression_of a) ≡ Waits action → Allowed p v s.memory a f n action → Fits p v (perform p s action)
      by (Read at manner) waits h = read_keeps at manner waits h
      by (Write at is_event x) waits h = write_keeps at is_event x waits h
      by (Choose b) waits h = stay_keeps s (Chose b) (Choose b) refl refl refl waits (h (Chose b)) refl
      by (Call callee args) waits h = call_keeps callee args h
      by (Flag on) waits h = done_keeps (with_flag s on) h.next Did refl refl h.ends h.flows h.flag
      by Save waits h = save_keeps h.next h.result h.flows h.off (h.resumes s.memory.flag ready.flag) (h.given s.memory.flag ready.flag) h.pairs
