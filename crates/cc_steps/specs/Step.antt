-- The steps of the running activation: one access, one call, one return, one intrinsic, or one choice. What a sound program
-- never does, as the use of an id that names nothing, is a trap.
use Rattle.std.specs.Prelude.{ℕ, ◌+◌, ◌==◌, ℤ, pos, Bool, true, false, ◌||◌, List, [], ◌∷◌, ◌++◌, Option, Some, None, slice_get, if◌then◌else◌}
use Rattle.std.specs.List.{list_any}
use Rattle.std.specs.Option.{option_or}
use Rattle.cc_program.specs.CcNum.Integers.{converted}
use Rattle.cc_program.specs.CcNum.Results.{one_if}
use Rattle.cc_program.specs.declared.expr.Expr.{Expr}
use Rattle.cc_program.specs.declared.func.Func.{Func}
use Rattle.cc_program.specs.declared.object.Device.{Device}
use Rattle.cc_program.specs.declared.program.Program.{Program}
use Rattle.cc_program.specs.declared.stmt.Case.{Case}
use Rattle.cc_program.specs.declared.stmt.Stmt.{Stmt, out-Stmt}
use Rattle.cc_program.specs.declared.stmt.Stmt.TheOpen as is
use Rattle.cc_program.specs.declared.types.Sig.{out-Sig}
use Rattle.cc_program.specs.declared.value.Address.{Address}
use Rattle.cc_program.specs.declared.value.Address.TheVariants as address
use Rattle.cc_program.specs.declared.value.Cell.{Cell}
use Rattle.cc_program.specs.declared.value.Cell.TheVariants as cell
use Rattle.cc_program.specs.declared.value.Part.{Part}
use Rattle.cc_program.specs.declared.value.Root.{Root}
use Rattle.cc_program.specs.declared.value.Root.TheVariants as root
use Rattle.cc_program.specs.declared.value.Value.{Value}
use Rattle.cc_program.specs.declared.value.Value.TheVariants.{Int, Place}
use Rattle.cc_eval.specs.CcSyntax.Values.{is_void}
use Rattle.cc_eval.specs.declared.action.Action.{Action}
use Rattle.cc_eval.specs.declared.action.Action.TheVariants.{Read, Write, Choose, Call, Flag, Save}
use Rattle.cc_eval.specs.declared.action.Manner.{Manner}
use Rattle.cc_steps.specs.declared.event.End.{End}
use Rattle.cc_steps.specs.declared.event.End.TheVariants.{Exit, Trap, Starved}
use Rattle.cc_steps.specs.declared.event.Event.{Event}
use Rattle.cc_steps.specs.declared.event.Event.TheVariants as event
use Rattle.cc_eval.specs.declared.mark.Mark.{Mark}
use Rattle.cc_eval.specs.declared.mark.Mark.TheVariants.{Gave, Did, Chose}
use Rattle.cc_control.specs.declared.phase.Phase.{Phase}
use Rattle.cc_control.specs.declared.phase.Phase.TheVariants.{First, Test, Again}
use Rattle.cc_cells.specs.Cells.{scalar_in, with_scalar}
use Rattle.cc_steps.specs.declared.content.Content.{Content}
use Rattle.cc_steps.specs.declared.content.Content.TheVariants.{Gone, Unwritten, Holds}
use Rattle.cc_steps.specs.Access.{local_content, is_open, with_local}
use Rattle.cc_eval.specs.Context.{object_type}
use Rattle.cc_control.specs.Control.{Level, Control, level, counted, close, behind, broken, continued, around_list, arm, from_label, is_label, is_default}
use Rattle.cc_eval.specs.Eval.{next_of}
use Rattle.cc_eval.specs.Progress.{Progress, Known, Waits, Traps, no_value}
use Rattle.cc_cells.specs.Scalars.{position}
use Rattle.cc_steps.specs.State.{Active, Memory, State, locals_with}
use Rattle.cc_eval.specs.CcValues.Values.{is_true}

abbrev pub stopped : State → End → State
stopped s end = record { memory = s.memory; stack = s.stack; opened = s.opened; end = end }

abbrev pub with_memory : State → Memory → State
with_memory s m = record { memory = m; stack = s.stack; opened = s.opened; end = s.end }

abbrev pub with_stack : State → List Active → State
with_stack s stack = record { memory = s.memory; stack = stack; opened = s.opened; end = s.end }

abbrev pub with_flag : State → Bool → State
with_flag s flag = with_memory s (record { flag = flag; statics = s.memory.statics; inputs = s.memory.inputs; trace = s.memory.trace })

abbrev pub with_statics : State → List (List Value) → State
with_statics s statics = with_memory s (record { flag = s.memory.flag; statics = statics; inputs = s.memory.inputs; trace = s.memory.trace })

abbrev pub with_inputs : State → List ℤ → State
with_inputs s inputs = with_memory s (record { flag = s.memory.flag; statics = s.memory.statics; inputs = inputs; trace = s.memory.trace })

abbrev pub with_event : Bool → State → Event → State
with_event false s e = s
with_event true s e = with_memory s (record { flag = s.memory.flag; statics = s.memory.statics; inputs = s.memory.inputs; trace = s.memory.trace ++ e ∷ [] })

-- the full expression that is worked in a statement
abbrev pub worked : is.Stmt-F Stmt Case → Phase → Option Expr
worked (is.Do e) phase = Some e
worked (is.If e a b) phase = Some e
worked (is.While e a) phase = Some e
worked (is.DoWhile a e) phase = Some e
worked (is.For first test again a) First = first
worked (is.For first test again a) Test = test
worked (is.For first test again a) Again = again
worked (is.Switch e cases) phase = Some e
worked is.Break phase = None
worked is.Continue phase = None
worked (is.Return e) phase = e
worked is.Empty phase = None
worked (is.Block a) phase = None

-- the full expression that is worked at a level, if one is
abbrev pub worked_at : Level → List Stmt → Option Expr
worked_at here [] = None
worked_at here (s ∷ rest) = worked (out-Stmt s) here.phase

-- the full expression of a statement which is left as soon as its value is known: the first expression of a `for`, and what that does
-- behind its body
abbrev pub passed_at : Phase → Option Expr → Option Expr → Option (Option Expr)
passed_at First first again = Some first
passed_at Test first again = None
passed_at Again first again = Some again

abbrev pub passed : is.Stmt-F Stmt Case → Phase → Option (Option Expr)
passed (is.Do e) phase = None
passed (is.If e these those) phase = None
passed (is.While e body) phase = None
passed (is.DoWhile body e) phase = None
passed (is.For first test again body) phase = passed_at phase first again
passed (is.Switch e cases) phase = None
passed is.Break phase = None
passed is.Continue phase = None
passed (is.Return e) phase = None
passed is.Empty phase = None
passed (is.Block body) phase = None

abbrev pub passed_first : List Stmt → Phase → Option (Option Expr)
passed_first [] phase = None
passed_first (s ∷ rest) phase = passed (out-Stmt s) phase

abbrev pub is_known : Progress (Option Value) → Bool
is_known (Known (Some v) ms) = true
is_known (Known None ms) = false
is_known (Waits action) = false
is_known (Traps ms) = false

abbrev pub at_test : Level → Level
at_test at = level at.rest at.position Test

-- at a place of the function, with nothing done there
abbrev pub moved : Active → Control → Active
moved a at = record { number = a.number; func = a.func; handler = a.handler; locals = a.locals; here = at.0; around = at.1; marks = [] }

abbrev pub with_mark : Active → Mark → Active
with_mark a m = record { number = a.number; func = a.func; handler = a.handler; locals = a.locals; here = a.here; around = a.around; marks = a.marks ++ m ∷ [] }

abbrev pub static_content : Option Value → Content
static_content None = Gone
static_content (Some v) = Holds v

abbrev pub content_at : State → Root → ℕ → Content
content_at s (root.Static i) position = static_content (scalar_in s.memory.statics i position)
content_at s (root.Auto number func local) position = local_content s.stack number local position

abbrev pub written : State → Root → ℕ → Value → Option State
written s (root.Static i) position v = Some (with_statics s (with_scalar s.memory.statics i position v))
written s (root.Auto number func local) position v =
    if is_open s.stack number then Some (with_stack s (with_local s.stack number local position v)) else None

abbrev pub number_in : Value → ℤ
number_in (Int n) = n
number_in (Place a) = pos 0

abbrev pub gives_nothing : Option Func → Bool
gives_nothing None = true
gives_nothing (Some f) = is_void (out-Sig f.sig).result

-- ---- choices

-- from the label that the value has, else from `default`, else behind the statement (6.8.4.2)
abbrev pub in_case : Active → Option (ℕ × List Stmt) → Control
in_case a None = behind a.here a.around
in_case a (Some at) = close at.1 (counted at.0) (around_list a.here ∷ a.around)

abbrev pub switched : Active → ℤ → List Case → Control
switched a v cases = in_case a (option_or (from_label (list_any (is_label v)) 0 cases) (from_label (list_any is_default) 0 cases))

-- a turn of a loop, or what stands behind it
abbrev pub looped : Bool → List Stmt → Active → Control
looped true body a = close body 0 (around_list a.here ∷ a.around)
looped false body a = behind a.here a.around

-- a test that is missing counts as one that is not 0 (6.8.5.3, 2)
abbrev pub is_passed : Option Expr → Value → Bool
is_passed None v = true
is_passed (Some e) v = is_true v

-- where a statement goes on once the value of its full expression is known; of a `for` that is its test
abbrev pub next_place : is.Stmt-F Stmt Case → Active → Value → Control
next_place (is.Do e) a v = behind a.here a.around
next_place (is.If e these those) a v = arm (is_true v) these those (around_list a.here ∷ a.around)
next_place (is.While e body) a v = looped (is_true v) body a
next_place (is.DoWhile body e) a v = looped (is_true v) body a
next_place (is.For first test again body) a v = looped (is_passed test v) body a
next_place (is.Switch e cases) a v = switched a (number_in v) cases
next_place is.Break a v = broken a.around
next_place is.Continue a v = continued a.around
next_place (is.Return e) a v = behind a.here a.around
next_place is.Empty a v = behind a.here a.around
next_place (is.Block body) a v = behind a.here a.around

abbrev pub is_return : is.Stmt-F Stmt Case → Bool
is_return (is.Do e) = false
is_return (is.If e these those) = false
is_return (is.While e body) = false
is_return (is.DoWhile body e) = false
is_return (is.For first test again body) = false
is_return (is.Switch e cases) = false
is_return is.Break = false
is_return is.Continue = false
is_return (is.Return e) = true
is_return is.Empty = false
is_return (is.Block body) = false

module _ (p : Program) where
  -- ---- where an activation stands

  abbrev pub progress_in : ℕ → ℕ → List Mark → Option Func → Option Expr → Progress (Option Value)
  progress_in number id ms None e = Traps ms
  progress_in number id ms (Some f) None = Known (Some no_value) ms
  progress_in number id ms (Some f) (Some e) = next_of (record { program = p; number = number; id = id; func = f }) e ms

  -- how far a full expression has come in an activation, by its number, its function, and what it has done
  abbrev pub progress_at : ℕ → ℕ → List Mark → Option Expr → Progress (Option Value)
  progress_at number id ms e = progress_in number id ms (slice_get p.funcs id) e

  abbrev pub is_past : ℕ → ℕ → List Mark → Option (Option Expr) → Bool
  is_past number id ms None = false
  is_past number id ms (Some e) = is_known (progress_at number id ms e)

  -- whether what is worked at a level, with these marks, is passed
  abbrev pub passes : ℕ → ℕ → List Mark → Level → Bool
  passes number id ms at = is_past number id ms (passed_first at.rest at.phase)

  -- where an activation stands that goes to a place of its function
  abbrev pub begun_at : ℕ → ℕ → Control → Control
  begun_at number id at = if passes number id [] at.0 then (at_test at.0, at.1) else at

  abbrev pub goes_to : Active → Control → Active
  goes_to a at = moved a (begun_at a.number a.func at)

  -- how far the full expression has come that an activation works
  abbrev pub progress_of : Active → Option Expr → Progress (Option Value)
  progress_of a e = progress_at a.number a.func a.marks e

  abbrev pub past_level : Active → Active
  past_level a = if passes a.number a.func a.marks a.here then moved a (at_test a.here, a.around) else a

  -- an expression statement is left as soon as its value is known, once a step was done
  abbrev pub settled_in : is.Stmt-F Stmt Case → Active → Active
  settled_in (is.Do e) a = if is_known (progress_of a (Some e)) then goes_to a (behind a.here a.around) else a
  settled_in (is.If e these those) a = a
  settled_in (is.While e body) a = a
  settled_in (is.DoWhile body e) a = a
  settled_in (is.For first test again body) a = past_level a
  settled_in (is.Switch e cases) a = a
  settled_in is.Break a = a
  settled_in is.Continue a = a
  settled_in (is.Return e) a = a
  settled_in is.Empty a = a
  settled_in (is.Block body) a = a

  abbrev pub settled : List Stmt → Active → Active
  settled [] a = a
  settled (s ∷ rest) a = settled_in (out-Stmt s) a

  -- one more step of the present full expression is done
  abbrev pub marked : Active → Mark → Active
  marked a m = settled a.here.rest (with_mark a m)

  -- of the running activation
  abbrev pub on_top : List Active → Mark → List Active
  on_top [] m = []
  on_top (a ∷ below) m = marked a m ∷ below

  abbrev pub did : State → Mark → State
  did s m = with_stack s (on_top s.stack m)

  -- ---- reads and writes

  abbrev pub cell_position : Root → List Part → ℕ
  cell_position object path = position p.structures path (object_type p object)

  abbrev pub has_read : State → Cell → Manner → Content → State
  has_read s at manner Gone = stopped s Trap
  has_read s at manner Unwritten = if manner.may_be_bad then did s (Gave None) else stopped s Trap
  has_read s at manner (Holds v) = did (with_event manner.is_event s (event.Read at v)) (Gave (Some v))

  -- a device gives the next input in its type, and none left ends the run
  abbrev pub input_read : State → ℕ → Option Device → List ℤ → State
  input_read s d None inputs = stopped s Trap
  input_read s d (Some device) [] = stopped s Starved
  input_read s d (Some device) (n ∷ inputs) =
      let v = Int (converted n device.int p.target) in did (with_event true (with_inputs s inputs) (event.Read (cell.Device d) v)) (Gave (Some v))

  abbrev pub read : State → Cell → Manner → State
  read s (cell.Device d) manner = input_read s d (slice_get p.devices d) s.memory.inputs
  read s (cell.At object path) manner = has_read s (cell.At object path) manner (content_at s object (cell_position object path))

  abbrev pub has_written : Cell → Bool → Value → State → Option State → State
  has_written at is_event v s None = stopped s Trap
  has_written at is_event v s (Some t) = did (with_event is_event t (event.Write at v)) Did

  abbrev pub write : State → Cell → Bool → Value → State
  write s (cell.Device d) is_event v = did (with_event true s (event.Write (cell.Device d) v)) Did
  write s (cell.At object path) is_event v = has_written (cell.At object path) is_event v s (written s object (cell_position object path) v)

  -- ---- calls and returns

  -- an activation of a function, before its first step
  abbrev pub activation : ℕ → ℕ → Bool → List Value → Func → Active
  activation number id handler args f =
      goes_to (record { number = number; func = id; handler = handler; locals = locals_with p args f.locals; here = level [] 0 First; around = []; marks = [] }) (close f.body 0 [])

  -- one more activation, which runs from now on
  abbrev pub opened : State → ℕ → Bool → List Value → Func → State
  opened s id handler args f =
      record { memory = s.memory; stack = activation s.opened id handler args f ∷ s.stack; opened = s.opened + 1; end = s.end }

  abbrev pub opened_if : State → ℕ → List Value → Option Func → State
  opened_if s id args None = stopped s Trap
  opened_if s id args (Some f) = opened s id false args f

  -- a call, whose parameters are the arguments
  abbrev pub call : State → Address → List Value → State
  call s address.Null args = stopped s Trap
  call s (address.Func f) args = opened_if s f args (slice_get p.funcs f)
  call s (address.At object path index count) args = stopped s Trap

  -- what the return of a function is for its caller
  abbrev pub return_mark : ℕ → Value → Mark
  return_mark id v = if gives_nothing (slice_get p.funcs id) then Did else Gave (Some v)

  -- a return: what a caller waits for is given; a handler's turns the flag on; that of the first activation ends the run
  abbrev pub returned : State → Active → List Active → Value → State
  returned s a [] v = stopped (with_stack s []) (Exit (number_in v))
  returned s a (b ∷ below) v =
      if a.handler then with_flag (with_stack s (b ∷ below)) true else with_stack s (marked b (return_mark a.func v) ∷ below)

  -- the end of a function: one that gives nothing returns, main gives 0 (5.1.2.2.3), and another traps
  abbrev pub fallen : State → Active → List Active → State
  fallen s a below =
      if gives_nothing (slice_get p.funcs a.func) || (a.func == p.main) then returned s a below no_value else stopped s Trap

  -- ---- the steps of full expressions

  abbrev pub perform : State → Action → State
  perform s (Read at manner) = read s at manner
  perform s (Write at is_event v) = write s at is_event v
  perform s (Choose b) = did s (Chose b)
  perform s (Call callee args) = call s callee args
  perform s (Flag on) = did (with_flag s on) Did
  perform s Save = did (with_flag s false) (Gave (Some (Int (one_if s.memory.flag))))

  abbrev pub done : is.Stmt-F Stmt Case → State → Active → List Active → Value → State
  done x s a below v = if is_return x then returned s a below v else with_stack s (goes_to a (next_place x a v) ∷ below)

  -- a bad value is chosen by, returned or dropped nowhere: it traps
  abbrev pub stepped : is.Stmt-F Stmt Case → State → Active → List Active → Progress (Option Value) → State
  stepped x s a below (Waits action) = perform s action
  stepped x s a below (Traps ms) = stopped s Trap
  stepped x s a below (Known None ms) = stopped s Trap
  stepped x s a below (Known (Some v) ms) = done x s a below v

  abbrev pub active_step : List Stmt → State → Active → List Active → State
  active_step [] s a below = fallen s a below
  active_step (x ∷ rest) s a below = stepped (out-Stmt x) s a below (progress_of a (worked (out-Stmt x) a.here.phase))

  -- one step of the program
  abbrev pub proceed : State → List Active → State
  proceed s [] = stopped s Trap
  proceed s (a ∷ below) = active_step a.here.rest (with_stack s (a ∷ below)) a below
