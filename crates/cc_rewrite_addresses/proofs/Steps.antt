-- Steps and turns leave all addresses in objects that pass the test.
use Rattle.std.proofs.Common.{◌≡◌, ◌∷◌, ◌++◌, ◌==◌, ◌||◌, ◌⊎◌, inl, inr, ℕ, zero, suc, ℤ, Bool, true, false, List, [], length, Option, Some, None, option_and_then, slice_get, refl, ap, sym, subst, if◌then◌else◌}
use Rattle.std.specs.Prelude.{slice_set, replicate}
use Rattle.cc_program.specs.CcNum.Integers.{converted}
use Rattle.cc_program.specs.CcNum.Results.{one_if}
use Rattle.cc_states.specs.CcCells.Cells.{scalar_in, set_scalar, with_scalar}
use Rattle.cc_states.specs.CcCells.Scalars.{zeros}
use Rattle.cc_states.specs.CcEval.declared.action.Action.{Action}
use Rattle.cc_states.specs.CcEval.declared.action.Action.TheVariants.{Read, Write, Choose, Call, Flag, Save}
use Rattle.cc_states.specs.CcEval.declared.action.Manner.{Manner}
use Rattle.cc_states.specs.CcEval.declared.mark.Mark.{Mark}
use Rattle.cc_states.specs.CcEval.declared.mark.Mark.TheVariants.{Gave, Did, Chose}
use Rattle.cc_states.specs.CcEval.Progress.{Progress, Known, Waits, Traps, no_value}
use Rattle.cc_program.specs.declared.expr.Expr.{Expr}
use Rattle.cc_program.specs.declared.func.Func.{Func}
use Rattle.cc_program.specs.declared.object.Device.{Device}
use Rattle.cc_program.specs.declared.program.Program.{Program}
use Rattle.cc_program.specs.declared.stmt.Case.{Case}
use Rattle.cc_program.specs.declared.stmt.Stmt.{Stmt, out-Stmt}
use Rattle.cc_program.specs.declared.stmt.Stmt.TheOpen as is
use Rattle.cc_program.specs.declared.value.Address.{Address}
use Rattle.cc_program.specs.declared.value.Address.TheVariants as address
use Rattle.cc_program.specs.declared.value.Cell.{Cell}
use Rattle.cc_program.specs.declared.value.Cell.TheVariants as cell
use Rattle.cc_program.specs.declared.value.Root.{Root}
use Rattle.cc_program.specs.declared.value.Root.TheVariants as root
use Rattle.cc_program.specs.declared.value.Value.{Value}
use Rattle.cc_program.specs.declared.value.Value.TheVariants.{Int}
use Rattle.cc_states.specs.CcSteps.declared.content.Content.{Content}
use Rattle.cc_states.specs.CcSteps.declared.content.Content.TheVariants.{Gone, Unwritten, Holds}
use Rattle.cc_states.specs.CcSteps.declared.event.End.{End}
use Rattle.cc_states.specs.CcSteps.declared.event.End.TheVariants.{Trap, Starved}
use Rattle.cc_states.specs.CcSteps.declared.event.Event.{Event}
use Rattle.cc_states.specs.CcSteps.declared.event.Event.TheVariants as event
use Rattle.cc_states.specs.CcSteps.Access.{content, local_content, with_locals, is_open, with_local}
use Rattle.cc_states.specs.CcSteps.State.{Active, State, locals_with}
use Rattle.cc_states.specs.CcSteps.Step.{stopped, with_stack, with_flag, with_inputs, with_event, with_mark, static_content, content_at, written, gives_nothing, is_known, at_test, moved, next_place, is_return, worked, progress_of, progress_in, passes, goes_to, settled_in, settled, marked, on_top, did, cell_position, has_read, input_read, read, has_written, write, activation, opened, opened_if, call, return_mark, returned, fallen, perform, done, stepped, active_step, proceed}
use Rattle.cc_states.specs.CcSteps.Turn.{is_going, entering, turn_by, turn}
use Rattle.cc_states.specs.CcControl.Control.{behind}
use Rattle.cc_states.specs.States.{worked_at, expression_of, IsActive, AreActive, IsState}
use Rattle.cc_states.proofs.CcSyntax.Parts.{all_at}
use Rattle.cc_states.specs.CcSyntax.Types.{Named}
use Rattle.cc_states.specs.CcSyntax.Effects.{no_one}
use Rattle.cc_rewrite_addresses.specs.Holds.{Every, ValueIn, MayIn, MarkIn, ActionIn, ProgressIn, ActiveIn, HoldsIn}
use Rattle.cc_rewrite_addresses.specs.Takes.{takes_other, TakesNone, AreAddressesIn}
use Rattle.cc_rewrite_addresses.proofs.Expressions.{expression_safe}
use Rattle.cc_rewrite_addresses.proofs.Inside.{expression_takes_none}

-- ---- lists

module _ {A : Type 0} (P : A → Type 0) where
  pub every_append : (xs ys : List A) → Every P xs → Every P ys → Every P (xs ++ ys)
  every_append [] ys h k = k
  every_append (x ∷ xs) ys h k = (h.0, every_append xs ys h.1 k)

  every_set : (xs : List A) (k : ℕ) (v : A) → Every P xs → P v → Every P (slice_set xs k v)
  every_set [] k v h p = tt
  every_set (x ∷ xs) zero v h p = (p, h.1)
  every_set (x ∷ xs) (suc k) v h p = (h.0, every_set xs k v h.1 p)

  abbrev Got : Option A → Type 0
  Got None = Unit {0}
  Got (Some x) = P x

  every_get : (xs : List A) (k : ℕ) → Every P xs → Got (slice_get xs k)
  every_get [] k h = tt
  every_get (x ∷ xs) zero h = h.0
  every_get (x ∷ xs) (suc k) h = every_get xs k h.1

module _ {A : Type 0} (P : A → Type 0) where
  scalar_got : (cells : List (List A)) (i k : ℕ) → Every (Every P) cells → Got P (scalar_in cells i k)
  scalar_got cells i k h = by (slice_get cells i) (every_get (Every P) cells i h)
    where
      by : (x : Option (List A)) → Got (Every P) x → Got P (option_and_then (λ xs. slice_get xs k) x)
      by None h = tt
      by (Some xs) h = every_get P xs k h

  scalar_set : (cells : List (List A)) (i k : ℕ) (v : A) → Every (Every P) cells → P v → Every (Every P) (with_scalar cells i k v)
  scalar_set cells i k v h p = by (slice_get cells i) (every_get (Every P) cells i h)
    where
      by : (x : Option (List A)) → Got (Every P) x → Every (Every P) (set_scalar cells i k v x)
      by None q = h
      by (Some xs) q = every_set (Every P) cells i (slice_set xs k v) h (every_set P xs k v q p)

-- ---- what a mark keeps of an activation

module _ (p : Program) where
  abbrev IsAfter : Active → Active → Type 0
  IsAfter a b = (b.locals ≡ a.locals) × ((b.marks ≡ []) ⊎ (b.marks ≡ a.marks))

  after_if : (b : Bool) (a x y : Active) → IsAfter a x → IsAfter a y → IsAfter a (if b then x else y)
  after_if true a x y h k = h
  after_if false a x y h k = k

  settled_in_after : (x : is.Stmt-F Stmt Case) (a : Active) → IsAfter a (settled_in p x a)
  settled_in_after (is.Do e) a = after_if (is_known (progress_of p a (Some e))) a (goes_to p a (behind a.here a.around)) a (refl, inl refl) (refl, inr refl)
  settled_in_after (is.For first test again body) a = after_if (passes p a.number a.func a.marks a.here) a (moved a (at_test a.here, a.around)) a (refl, inl refl) (refl, inr refl)
  settled_in_after _ a = (refl, inr refl)

  settled_after : (l : List Stmt) (a : Active) → IsAfter a (settled p l a)
  settled_after [] a = (refl, inr refl)
  settled_after (s ∷ l) a = settled_in_after (out-Stmt s) a

module _ (test : ℕ → Bool) (p : Program) where
  abbrev Holding : State → Type 0
  Holding s = HoldsIn test s

  abbrev pub Actives : List Active → Type 0
  Actives stack = Every (ActiveIn test) stack

  after_in : (a b : Active) → IsAfter p a b → ActiveIn test a → ActiveIn test b
  after_in a b k h = record { locals = subst (Every (Every (MayIn test))) (sym k.0) h.locals; marks = by k.1 }
    where
      by : (b.marks ≡ []) ⊎ (b.marks ≡ a.marks) → Every (MarkIn test) b.marks
      by (inl e) = subst (Every (MarkIn test)) (sym e) tt
      by (inr e) = subst (Every (MarkIn test)) (sym e) h.marks

  marked_in : (a : Active) (m : Mark) → ActiveIn test a → MarkIn test m → ActiveIn test (marked p a m)
  marked_in a m h k = after_in (with_mark a m) (marked p a m) (settled_after p a.here.rest (with_mark a m)) (record { locals = h.locals; marks = every_append (MarkIn test) a.marks (m ∷ []) h.marks (k, tt) })

  on_top_in : (stack : List Active) (m : Mark) → Actives stack → MarkIn test m → Actives (on_top p stack m)
  on_top_in [] m h k = tt
  on_top_in (a ∷ below) m h k = (marked_in a m h.0 k, h.1)

  did_in : (s : State) (m : Mark) → Holding s → MarkIn test m → Holding (did p s m)
  did_in s m h k = record { statics = h.statics; stack = on_top_in s.stack m h.stack k }

  event_in : (b : Bool) (s : State) (e : Event) → Holding s → Holding (with_event b s e)
  event_in true s e h = record { statics = h.statics; stack = h.stack }
  event_in false s e h = h

  stopped_in : (s : State) (end : End) → Holding s → Holding (stopped s end)
  stopped_in s end h = record { statics = h.statics; stack = h.stack }

  flag_in : (s : State) (on : Bool) → Holding s → Holding (with_flag s on)
  flag_in s on h = record { statics = h.statics; stack = h.stack }

  state_if : (b : Bool) (x y : State) → Holding x → Holding y → Holding (if b then x else y)
  state_if true x y h k = h
  state_if false x y h k = k

  -- ---- reads

  abbrev ContentIn : Content → Type 0
  ContentIn Gone = Unit {0}
  ContentIn Unwritten = Unit {0}
  ContentIn (Holds v) = ValueIn test v

  static_in : (x : Option Value) → Got (ValueIn test) x → ContentIn (static_content x)
  static_in None h = tt
  static_in (Some v) h = h

  scalar_content : (x : Option (Option Value)) → Got (MayIn test) x → ContentIn (content x)
  scalar_content None h = tt
  scalar_content (Some None) h = tt
  scalar_content (Some (Some v)) h = h

  content_if : (b : Bool) (x y : Content) → ContentIn x → ContentIn y → ContentIn (if b then x else y)
  content_if true x y h k = h
  content_if false x y h k = k

  local_in : (stack : List Active) (number local k : ℕ) → Actives stack → ContentIn (local_content stack number local k)
  local_in [] number local k h = tt
  local_in (a ∷ below) number local k h =
      content_if (a.number == number) (content (scalar_in a.locals local k)) (local_content below number local k) (scalar_content (scalar_in a.locals local k) (scalar_got (MayIn test) a.locals local k h.0.locals)) (local_in below number local k h.1)

  content_in : (s : State) (o : Root) (k : ℕ) → Holding s → ContentIn (content_at s o k)
  content_in s (root.Static i) k h = static_in (scalar_in s.memory.statics i k) (scalar_got (ValueIn test) s.memory.statics i k h.statics)
  content_in s (root.Auto number func local) k h = local_in s.stack number local k h.stack

  has_read_in : (s : State) (at : Cell) (manner : Manner) (c : Content) → Holding s → ContentIn c → Holding (has_read p s at manner c)
  has_read_in s at manner Gone h k = stopped_in s Trap h
  has_read_in s at manner Unwritten h k = state_if manner.may_be_bad _ _ (did_in s (Gave None) h tt) (stopped_in s Trap h)
  has_read_in s at manner (Holds v) h k = did_in (with_event manner.is_event s (event.Read at v)) (Gave (Some v)) (event_in manner.is_event s (event.Read at v) h) k

  inputs_in : (s : State) (inputs : List ℤ) → Holding s → Holding (with_inputs s inputs)
  inputs_in s inputs h = record { statics = h.statics; stack = h.stack }

  input_in : (s : State) (d : ℕ) (device : Option Device) (inputs : List ℤ) → Holding s → Holding (input_read p s d device inputs)
  input_in s d None inputs h = stopped_in s Trap h
  input_in s d (Some device) [] h = stopped_in s Starved h
  input_in s d (Some device) (n ∷ inputs) h =
      let v = Int (converted n device.int p.target) in
      did_in (with_event true (with_inputs s inputs) (event.Read (cell.Device d) v)) (Gave (Some v)) (event_in true (with_inputs s inputs) (event.Read (cell.Device d) v) (inputs_in s inputs h)) tt

  read_in : (s : State) (at : Cell) (manner : Manner) → Holding s → Holding (read p s at manner)
  read_in s (cell.Device d) manner h = input_in s d (slice_get p.devices d) s.memory.inputs h
  read_in s (cell.At o path) manner h = has_read_in s (cell.At o path) manner (content_at s o (cell_position p o path)) h (content_in s o (cell_position p o path) h)

  -- ---- writes

  actives_if : (b : Bool) (xs ys : List Active) → Actives xs → Actives ys → Actives (if b then xs else ys)
  actives_if true xs ys h k = h
  actives_if false xs ys h k = k

  with_local_in : (stack : List Active) (number local k : ℕ) (v : Value) → Actives stack → ValueIn test v → Actives (with_local stack number local k v)
  with_local_in [] number local k v h i = tt
  with_local_in (a ∷ below) number local k v h i =
      actives_if (a.number == number) (with_locals a (with_scalar a.locals local k (Some v)) ∷ below) (a ∷ with_local below number local k v)
      (record { locals = scalar_set (MayIn test) a.locals local k (Some v) h.0.locals i; marks = h.0.marks }, h.1) (h.0, with_local_in below number local k v h.1 i)

  abbrev Written : Option State → Type 0
  Written None = Unit {0}
  Written (Some t) = Holding t

  written_if : (b : Bool) (t : State) → Holding t → Written (if b then Some t else None)
  written_if true t h = h
  written_if false t h = tt

  written_in : (s : State) (o : Root) (k : ℕ) (v : Value) → Holding s → ValueIn test v → Written (written s o k v)
  written_in s (root.Static i) k v h q = record { statics = scalar_set (ValueIn test) s.memory.statics i k v h.statics q; stack = h.stack }
  written_in s (root.Auto number func local) k v h q =
      written_if (is_open s.stack number) (with_stack s (with_local s.stack number local k v)) (record { statics = h.statics; stack = with_local_in s.stack number local k v h.stack q })

  has_written_in : (at : Cell) (is_event : Bool) (v : Value) (s : State) (t : Option State) → Holding s → Written t → Holding (has_written p at is_event v s t)
  has_written_in at is_event v s None h k = stopped_in s Trap h
  has_written_in at is_event v s (Some t) h k = did_in (with_event is_event t (event.Write at v)) Did (event_in is_event t (event.Write at v) k) tt

  write_in : (s : State) (at : Cell) (is_event : Bool) (v : Value) → Holding s → ValueIn test v → Holding (write p s at is_event v)
  write_in s (cell.Device d) is_event v h k = did_in (with_event true s (event.Write (cell.Device d) v)) Did (event_in true s (event.Write (cell.Device d) v) h) tt
  write_in s (cell.At o path) is_event v h k = has_written_in (cell.At o path) is_event v s (written s o (cell_position p o path) v) h (written_in s o (cell_position p o path) v h k)

  -- ---- calls

  nothing_in : (n : ℕ) → Every (MayIn test) (replicate n None)
  nothing_in zero = tt
  nothing_in (suc n) = (tt, nothing_in n)

  locals_in : (args : List Value) (ls : List Named) → Every (ValueIn test) args → Every (Every (MayIn test)) (locals_with p args ls)
  locals_in args [] h = tt
  locals_in [] (l ∷ ls) h = (nothing_in (length (zeros p.structures l.1)), locals_in [] ls tt)
  locals_in (v ∷ args) (l ∷ ls) h = ((h.0, tt), locals_in args ls h.1)

  pub activation_in : (number id : ℕ) (handler : Bool) (args : List Value) (f : Func) → Every (ValueIn test) args → ActiveIn test (activation p number id handler args f)
  activation_in number id handler args f h = record { locals = locals_in args f.locals h; marks = tt }

  opened_in : (s : State) (id : ℕ) (handler : Bool) (args : List Value) (f : Func) → Holding s → Every (ValueIn test) args → Holding (opened p s id handler args f)
  opened_in s id handler args f h k = record { statics = h.statics; stack = (activation_in s.opened id handler args f k, h.stack) }

  opened_by : (s : State) (id : ℕ) (args : List Value) (f : Option Func) → Holding s → Every (ValueIn test) args → Holding (opened_if p s id args f)
  opened_by s id args None h k = stopped_in s Trap h
  opened_by s id args (Some f) h k = opened_in s id false args f h k

  call_in : (s : State) (callee : Address) (args : List Value) → Holding s → Every (ValueIn test) args → Holding (call p s callee args)
  call_in s address.Null args h k = stopped_in s Trap h
  call_in s (address.Func id) args h k = opened_by s id args (slice_get p.funcs id) h k
  call_in s (address.At object path index count) args h k = stopped_in s Trap h

  mark_if : (b : Bool) (v : Value) → ValueIn test v → MarkIn test (if b then Did else Gave (Some v))
  mark_if true v h = tt
  mark_if false v h = h

  returned_in : (s : State) (a : Active) (below : List Active) (v : Value) → Holding s → Actives below → ValueIn test v → Holding (returned p s a below v)
  returned_in s a [] v h k q = record { statics = h.statics; stack = tt }
  returned_in s a (b ∷ below) v h k q =
      state_if a.handler (with_flag (with_stack s (b ∷ below)) true) (with_stack s (marked p b (return_mark p a.func v) ∷ below)) (record { statics = h.statics; stack = k }) (record { statics = h.statics; stack = (marked_in b (return_mark p a.func v) k.0 (mark_if (gives_nothing (slice_get p.funcs a.func)) v q), k.1) })

  fallen_in : (s : State) (a : Active) (below : List Active) → Holding s → Actives below → Holding (fallen p s a below)
  fallen_in s a below h k = state_if (gives_nothing (slice_get p.funcs a.func) || (a.func == p.main)) _ _ (returned_in s a below no_value h k tt) (stopped_in s Trap h)

  -- ---- steps of the running activation

  perform_in : (s : State) (action : Action) → Holding s → ActionIn test action → Holding (perform p s action)
  perform_in s (Read at manner) h k = read_in s at manner h
  perform_in s (Write at is_event v) h k = write_in s at is_event v h k
  perform_in s (Choose b) h k = did_in s (Chose b) h tt
  perform_in s (Call callee args) h k = call_in s callee args h k.1
  perform_in s (Flag on) h k = did_in (with_flag s on) Did (flag_in s on h) tt
  perform_in s Save h k = did_in (with_flag s false) (Gave (Some (Int (one_if s.memory.flag)))) (flag_in s false h) tt

  done_in : (x : is.Stmt-F Stmt Case) (s : State) (a : Active) (below : List Active) (v : Value) → Holding s → ActiveIn test a → Actives below → ValueIn test v → Holding (done p x s a below v)
  done_in x s a below v h i k q = state_if (is_return x) (returned p s a below v) (with_stack s (goes_to p a (next_place x a v) ∷ below)) (returned_in s a below v h k q) (record { statics = h.statics; stack = (record { locals = i.locals; marks = tt }, k) })

  stepped_in : (x : is.Stmt-F Stmt Case) (s : State) (a : Active) (below : List Active) (q : Progress (Option Value)) → Holding s → ActiveIn test a → Actives below → ProgressIn test (MayIn test) q → Holding (stepped p x s a below q)
  stepped_in x s a below (Waits action) h i k q = perform_in s action h q
  stepped_in x s a below (Traps ms) h i k q = stopped_in s Trap h
  stepped_in x s a below (Known None ms) h i k q = stopped_in s Trap h
  stepped_in x s a below (Known (Some v) ms) h i k q = done_in x s a below v h i k q.0

  abbrev Progressing : Active → Option Expr → Type 0
  Progressing a e = ProgressIn test (MayIn test) (progress_of p a e)

  step_in : (l : List Stmt) (s : State) (a : Active) (below : List Active) → Holding s → ActiveIn test a → Actives below → ((x : Stmt) (rest : List Stmt) → l ≡ x ∷ rest → Progressing a (worked (out-Stmt x) a.here.phase)) → Holding (active_step p l s a below)
  step_in [] s a below h i k q = fallen_in s a below h k
  step_in (x ∷ rest) s a below h i k q = stepped_in (out-Stmt x) s a below (progress_of p a (worked (out-Stmt x) a.here.phase)) h i k (q x rest refl)

  -- ---- what the running activation works

  module _ (none : AreAddressesIn test p) where
    progress_by : (a : Active) (e : Option Expr) (f : Option Func) → Every (MarkIn test) a.marks → ((g : Func) (x : Expr) → f ≡ Some g → e ≡ Some x → takes_other test x ≡ false) → ProgressIn test (MayIn test) (progress_in p a.number a.func a.marks f e)
    progress_by a e None m k = tt
    progress_by a None (Some f) m k = (tt, m)
    progress_by a (Some x) (Some f) m k = expression_safe test (record { program = p; number = a.number; id = a.func; func = f }) x (k f x refl refl) no_one a.marks m

    running_in : (openings : List ℕ) (a : Active) → IsActive p openings a → ActiveIn test a → Progressing a (expression_of a)
    running_in openings a h i =
        progress_by a (expression_of a) (slice_get p.funcs a.func) i.marks
        (λ g x e w. expression_takes_none test h.func a x h.inside w (all_at (TakesNone test) p.funcs a.func h.func h.function none.text))

    proceed_in : (openings : List ℕ) (s : State) (stack : List Active) → AreActive p openings stack → Holding s → Actives stack → Holding (proceed p s stack)
    proceed_in openings s [] h k i = stopped_in s Trap k
    proceed_in openings s (a ∷ below) h k i =
        step_in a.here.rest (with_stack s (a ∷ below)) a below (record { statics = k.statics; stack = i }) i.0 i.1
        (λ x rest e. subst (λ l. Progressing a l) (worked_there x rest e) (running_in openings a h.0 i.0))
      where
        worked_there : (x : Stmt) (rest : List Stmt) → a.here.rest ≡ x ∷ rest → expression_of a ≡ worked (out-Stmt x) a.here.phase
        worked_there x rest e = ap (worked_at a.here) e

    turn_by_in : (s : State) → IsState p s → Holding s → (x : Option (ℕ × Func)) → Holding (turn_by p s x)
    turn_by_in s h k (Some x) = opened_in (with_event true (with_flag s false) (event.Enter x.0)) x.0 true [] x.1 (event_in true (with_flag s false) (event.Enter x.0) (flag_in s false k)) tt
    turn_by_in s h k None = state_if (is_going s.end) _ _ (proceed_in h.0 s s.stack h.1.stack k k.stack) k

    pub turn_in : (s : State) → IsState p s → Holding s → (arrival : Option ℕ) → Holding (turn p s arrival)
    turn_in s h k arrival = turn_by_in s h k (entering p s arrival)
