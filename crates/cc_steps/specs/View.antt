-- What the code's values stand for.
use Rattle.std.specs.Prelude.{◌≡◌, ◌≢◌, ◌<◌, ℕ, suc, List, [], ◌∷◌, length, drop, get_or, map, reverse, Option, Some, None}
use Rattle.cc_cells.specs.Cells.{cells_of}
use Rattle.cc_control.specs.Control.{Control}
use Rattle.cc_control.specs.View.{level_of, levels_of}
use Rattle.cc_steps.specs.declared.activation.Activation.{Activation}
use Rattle.cc_steps.specs.declared.run.Run.{Run}
use Rattle.cc_steps.specs.State.{Active, State}
use Rattle.cc_program.specs.declared.func.Func.{Func}
use Rattle.cc_program.specs.declared.program.Program.{Program}
use Rattle.std.specs.Borrow.{Bor}
use Rattle.cc_program.specs.declared.value.Value.{Value}
use Rattle.cc_steps.specs.declared.step.Next.{Next}
use Rattle.cc_steps.specs.declared.step.Next.TheVariants as next
use Rattle.cc_steps.specs.declared.event.End.TheVariants.{Trap}
use Rattle.cc_steps.specs.Step.{moved, stopped, returned, fallen, perform, done}
use Rattle.cc_program.specs.declared.stmt.Case.{Case}
use Rattle.cc_program.specs.declared.stmt.Stmt.{Stmt, out-Stmt}
use Rattle.cc_program.specs.declared.stmt.Stmt.TheOpen as is

abbrev pub active_of : Activation → Active
active_of a = record {
  number = a.number;
  func = a.func;
  handler = a.handler;
  locals = cells_of a.locals.items;
  here = level_of a.here;
  around = levels_of a.around.items;
  marks = a.marks.items;
}

-- the activations of a stack, the last one first
unfoldable pub actives_of : List Activation → List Active
actives_of stack = reverse (map active_of stack)

abbrev pub state_of : Run → State
state_of m = record {
  memory = record { flag = m.flag; statics = cells_of m.statics.items; inputs = reverse m.inputs.items; trace = m.trace.items };
  stack = actives_of m.stack.items;
  opened = m.opened;
  end = m.end;
}

-- at a place of the function, where there is one to go to
abbrev pub moved_if : Active → Option Control → Active
moved_if a None = a
moved_if a (Some at) = moved a at

-- none of the activations has the number
abbrev pub NoneHas : ℕ → List Activation → Type 0
NoneHas number [] = Unit {0}
NoneHas number (a ∷ stack) = (a.number ≢ number) × NoneHas number stack

-- the newest activation that has the number stands there
pub record IsNewest (stack : List Activation) (number i : ℕ) : Type 0 where
  pub within : i < length stack
  pub here : (d : Activation) → (get_or stack i d).number ≡ number
  pub above : NoneHas number (drop (suc i) stack)

-- the first activation, where there is one, returns
abbrev pub returned_first : Program → State → List Active → Value → State
returned_first p s [] v = s
returned_first p s (a ∷ below) v = returned p s a below v

-- what an activation does next, and what that makes of a state
abbrev pub went : Program → Next → State → Active → List Active → State
went p next.Falls s a below = fallen p s a below
went p (next.Performs action) s a below = perform p s action
went p next.Traps s a below = stopped s Trap
went p (next.Done x v) s a below = done p (out-Stmt x.now) s a below v

abbrev pub fallen_first : Program → State → List Active → State
fallen_first p s [] = s
fallen_first p s (a ∷ below) = fallen p s a below

abbrev pub done_first : Program → is.Stmt-F Stmt Case → State → List Active → Value → State
done_first p x s [] v = s
done_first p x s (a ∷ below) v = done p x s a below v

-- a handler that enters, and its function
abbrev pub entry_view : ℕ × Bor Func → ℕ × Func
entry_view e = (e.0, e.1.now)
