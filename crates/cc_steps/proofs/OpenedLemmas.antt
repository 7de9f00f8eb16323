-- A turn opens at most one activation: a call or an entry does, and no other step does.
use Rattle.std.proofs.Common.{arith, ◌≡◌, ◌≤◌, ◌+◌, ◌==◌, ◌||◌, ℕ, ℤ, Bool, true, false, if◌then◌else◌, List, [], ◌∷◌, Option, Some, None, refl, sym, subst, ◌∙◌}
use Rattle.std.specs.Prelude.{slice_get}
use Rattle.cc_eval.specs.declared.action.Action.{Action}
use Rattle.cc_eval.specs.declared.action.Action.TheVariants.{Read, Write, Choose, Call, Flag, Save}
use Rattle.cc_eval.specs.declared.action.Manner.{Manner}
use Rattle.cc_eval.specs.Progress.{Progress, Known, Waits, Traps, no_value}
use Rattle.cc_program.specs.declared.func.Func.{Func}
use Rattle.cc_program.specs.declared.object.Device.{Device}
use Rattle.cc_program.specs.declared.program.Program.{Program}
use Rattle.cc_program.specs.declared.stmt.Case.{Case}
use Rattle.cc_program.specs.declared.stmt.Stmt.{Stmt, out-Stmt}
use Rattle.cc_program.specs.declared.stmt.Stmt.TheOpen as is
use Rattle.cc_program.specs.declared.value.Address.{Address}
use Rattle.cc_program.specs.declared.value.Address.TheVariants as address
use Rattle.cc_program.specs.declared.value.Cell.{Cell}
use Rattle.cc_program.specs.declared.value.Cell.TheVariants as cell
use Rattle.cc_program.specs.declared.value.Root.TheVariants as root
use Rattle.cc_program.specs.declared.value.Value.{Value}
use Rattle.cc_steps.specs.declared.content.Content.{Content}
use Rattle.cc_steps.specs.declared.content.Content.TheVariants.{Gone, Unwritten, Holds}
use Rattle.cc_steps.specs.declared.event.Event.{Event}
use Rattle.cc_steps.specs.Access.{is_open}
use Rattle.cc_steps.specs.State.{Active, State}
use Rattle.cc_steps.specs.Step.{with_event, has_read, input_read, read, has_written, write, opened_if, call, gives_nothing, returned, fallen, perform, is_return, done, stepped, active_step, proceed, worked, progress_of, content_at, cell_position, with_stack}
use Rattle.cc_steps.specs.Turn.{is_going, entering, turn_by, turn}

either_same : (b : Bool) (t u : State) (n : ℕ) → t.opened ≡ n → u.opened ≡ n → (if b then t else u).opened ≡ n
either_same true t u n h k = h
either_same false t u n h k = k

either_way : (b : Bool) (t u : State) (n : ℕ) → t.opened ≤ n → u.opened ≤ n → (if b then t else u).opened ≤ n
either_way true t u n h k = h
either_way false t u n h k = k

event_same : (b : Bool) (s : State) (e : Event) → (with_event b s e).opened ≡ s.opened
event_same true s e = refl
event_same false s e = refl

no_more : (m n : ℕ) → m ≡ n → m ≤ n + 1
no_more m n h = omega (arith, h)

module _ (p : Program) where
  has_read_same : (s : State) (at : Cell) (manner : Manner) (c : Content) → (has_read p s at manner c).opened ≡ s.opened
  has_read_same s at manner Gone = refl
  has_read_same s at manner Unwritten = either_same manner.may_be_bad _ _ s.opened refl refl
  has_read_same s at manner (Holds v) = event_same manner.is_event s _

  input_same : (s : State) (d : ℕ) (device : Option Device) (inputs : List ℤ) → (input_read p s d device inputs).opened ≡ s.opened
  input_same s d None inputs = refl
  input_same s d (Some device) [] = refl
  input_same s d (Some device) (n ∷ inputs) = refl

  read_same : (s : State) (at : Cell) (manner : Manner) → (read p s at manner).opened ≡ s.opened
  read_same s (cell.Device d) manner = input_same s d (slice_get p.devices d) s.memory.inputs
  read_same s (cell.At object path) manner = has_read_same s (cell.At object path) manner (content_at s object (cell_position p object path))

  written_same : (at : Cell) (is_event : Bool) (v : Value) (s t : State) (b : Bool) → t.opened ≡ s.opened → (has_written p at is_event v s (if b then Some t else None)).opened ≡ s.opened
  written_same at is_event v s t true h = event_same is_event t _ ∙ h
  written_same at is_event v s t false h = refl

  write_same : (s : State) (at : Cell) (is_event : Bool) (v : Value) → (write p s at is_event v).opened ≡ s.opened
  write_same s (cell.Device d) is_event v = refl
  write_same s (cell.At (root.Static i) path) is_event v = event_same is_event _ _
  write_same s (cell.At (root.Auto number func local) path) is_event v = written_same (cell.At (root.Auto number func local) path) is_event v s _ (is_open s.stack number) refl

  opens_if : (s : State) (id : ℕ) (args : List Value) (f : Option Func) → (opened_if p s id args f).opened ≤ s.opened + 1
  opens_if s id args None = omega arith
  opens_if s id args (Some f) = omega arith

  calls : (s : State) (callee : Address) (args : List Value) → (call p s callee args).opened ≤ s.opened + 1
  calls s address.Null args = omega arith
  calls s (address.Func f) args = opens_if s f args (slice_get p.funcs f)
  calls s (address.At object path index count) args = omega arith

  returned_same : (s : State) (a : Active) (below : List Active) (v : Value) → (returned p s a below v).opened ≡ s.opened
  returned_same s a [] v = refl
  returned_same s a (b ∷ below) v = either_same a.handler _ _ s.opened refl refl

  fallen_same : (s : State) (a : Active) (below : List Active) → (fallen p s a below).opened ≡ s.opened
  fallen_same s a below = either_same (gives_nothing (slice_get p.funcs a.func) || (a.func == p.main)) _ _ s.opened (returned_same s a below no_value) refl

  performs : (s : State) (action : Action) → (perform p s action).opened ≤ s.opened + 1
  performs s (Read at manner) = no_more (read p s at manner).opened s.opened (read_same s at manner)
  performs s (Write at is_event v) = no_more (write p s at is_event v).opened s.opened (write_same s at is_event v)
  performs s (Choose b) = omega arith
  performs s (Call callee args) = calls s callee args
  performs s (Flag on) = omega arith
  performs s Save = omega arith

  done_same : (x : is.Stmt-F Stmt Case) (s : State) (a : Active) (below : List Active) (v : Value) → (done p x s a below v).opened ≡ s.opened
  done_same x s a below v = either_same (is_return x) _ _ s.opened (returned_same s a below v) refl

  steps : (x : is.Stmt-F Stmt Case) (s : State) (a : Active) (below : List Active) (g : Progress (Option Value)) → (stepped p x s a below g).opened ≤ s.opened + 1
  steps x s a below (Waits action) = performs s action
  steps x s a below (Traps ms) = omega arith
  steps x s a below (Known None ms) = omega arith
  steps x s a below (Known (Some v) ms) = no_more (done p x s a below v).opened s.opened (done_same x s a below v)

  active_steps : (rest : List Stmt) (s : State) (a : Active) (below : List Active) → (active_step p rest s a below).opened ≤ s.opened + 1
  active_steps [] s a below = no_more (fallen p s a below).opened s.opened (fallen_same s a below)
  active_steps (x ∷ rest) s a below = steps (out-Stmt x) s a below (progress_of p a (worked (out-Stmt x) a.here.phase))

  proceeds : (s : State) (stack : List Active) → (proceed p s stack).opened ≤ s.opened + 1
  proceeds s [] = omega arith
  proceeds s (a ∷ below) = active_steps a.here.rest (with_stack s (a ∷ below)) a below

  pub turn_by-opens : (s : State) (h : Option (ℕ × Func)) → (turn_by p s h).opened ≤ s.opened + 1
  turn_by-opens s (Some h) = omega arith
  turn_by-opens s None = either_way (is_going s.end) (proceed p s s.stack) s (s.opened + 1) (proceeds s s.stack) (omega arith)

  pub turn-opens : (s : State) (arrival : Option ℕ) → (turn p s arrival).opened ≤ s.opened + 1
  turn-opens s arrival = turn_by-opens s (entering p s arrival)

  -- of a turn in which nothing enters, by the state that it leaves
  pub idle-opens : (s t : State) → t ≡ turn_by p s None → t.opened ≤ s.opened + 1
  idle-opens s t h = subst (λ (u : State). u.opened ≤ s.opened + 1) (sym h) (turn_by-opens s None)
