-- What an activation does next, as far as its control decides that: its locals, the memory and the activations below play no part.
use Rattle.std.specs.Prelude.{◌∷◌, ◌++◌, ◌&&◌, if◌then◌else◌, ℕ, Bool, List, [], Option, Some, None}
use Rattle.cc_program.specs.declared.expr.Expr.{Expr}
use Rattle.cc_program.specs.declared.program.Program.{Program}
use Rattle.cc_program.specs.declared.stmt.Case.{Case}
use Rattle.cc_program.specs.declared.stmt.Stmt.{Stmt, out-Stmt}
use Rattle.cc_program.specs.declared.stmt.Stmt.TheOpen as is
use Rattle.cc_program.specs.declared.value.Value.{Value}
use Rattle.cc_steps.specs.CcControl.declared.phase.Phase.TheVariants.{First, Test}
use Rattle.cc_steps.specs.CcEval.declared.action.Action.{Action}
use Rattle.cc_steps.specs.CcEval.declared.mark.Mark.{Mark}
use Rattle.cc_steps.specs.CcEval.Progress.{Progress, Known, Waits, Traps}
use Rattle.cc_steps.specs.Runs.{is_empty, begins}
use Rattle.cc_steps.specs.State.{Active}
use Rattle.cc_steps.specs.Step.{worked, passed_first, is_known, is_return, progress_at, is_past}
use Rattle.cc_meaning_simulations.specs.Continuations.{Continuation, Remainder, next_continuation, past, remainder, remainder_of, remainders}

-- the control of an activation: its number and its function, where it stands, and what its full expression has done
pub record ControlState : Type 0 where
  pub number : ℕ
  pub func : ℕ
  pub here : Remainder
  pub around : List Remainder
  pub marks : List Mark

abbrev pub control_state : Active → ControlState
control_state a = record { number = a.number; func = a.func; here = remainder_of a.here; around = remainders a.around; marks = a.marks }

-- the control of an activation that stands nowhere yet
abbrev pub control_at : ℕ → ℕ → ControlState
control_at number id = record { number = number; func = id; here = remainder [] First; around = []; marks = [] }

-- elsewhere in the function, with nothing done there
abbrev pub at_continuation : ControlState → Continuation → ControlState
at_continuation a at = record { number = a.number; func = a.func; here = at.0; around = at.1; marks = [] }

-- one more step of the full expression is done
abbrev pub mark_added : ControlState → Mark → ControlState
mark_added a m = record { number = a.number; func = a.func; here = a.here; around = a.around; marks = a.marks ++ m ∷ [] }

-- at the test of a loop
abbrev pub test_remainder : Remainder → Remainder
test_remainder at = remainder at.rest Test

-- whether the next step is the first of a statement, or of a loop's turn
abbrev pub is_at_boundary : ControlState → Bool
is_at_boundary a = is_empty a.marks && begins a.here.rest a.here.phase

-- what comes next: the end of the function, an action, a trap, another place, or a return
pub data Transition : Type 0 where
  FallsOff : Transition
  Performs : Action → Transition
  Aborts : Transition
  Jumps : ControlState → Transition
  Returns : Value → Transition

module _ (p : Program) where
  -- whether what is worked there, with these marks, is left as soon as its value is known
  abbrev pub passes_at : ℕ → ℕ → List Mark → Remainder → Bool
  passes_at number id ms at = is_past p number id ms (passed_first at.rest at.phase)

  -- where an activation stands that goes to a place of its function
  abbrev pub begun_there : ℕ → ℕ → Continuation → Continuation
  begun_there number id at = if passes_at number id [] at.0 then (test_remainder at.0, at.1) else at

  -- at a place of its function
  abbrev pub jump_to : ControlState → Continuation → ControlState
  jump_to a at = at_continuation a (begun_there a.number a.func at)

  -- how far its full expression has come
  abbrev pub progress_there : ControlState → Option Expr → Progress (Option Value)
  progress_there a e = progress_at p a.number a.func a.marks e

  -- an expression statement is left as soon as its value is known, once a step was done
  abbrev pub settled_control_in : is.Stmt-F Stmt Case → ControlState → ControlState
  settled_control_in (is.Do e) a = if is_known (progress_there a (Some e)) then jump_to a (past a.here a.around) else a
  settled_control_in (is.If e these those) a = a
  settled_control_in (is.While e body) a = a
  settled_control_in (is.DoWhile body e) a = a
  settled_control_in (is.For first test again body) a = if passes_at a.number a.func a.marks a.here then at_continuation a (test_remainder a.here, a.around) else a
  settled_control_in (is.Switch e cases) a = a
  settled_control_in is.Break a = a
  settled_control_in is.Continue a = a
  settled_control_in (is.Return e) a = a
  settled_control_in is.Empty a = a
  settled_control_in (is.Block body) a = a

  abbrev pub settled_control : List Stmt → ControlState → ControlState
  settled_control [] a = a
  settled_control (s ∷ rest) a = settled_control_in (out-Stmt s) a

  -- once a step of the full expression is done
  abbrev pub marked_control : ControlState → Mark → ControlState
  marked_control a m = settled_control a.here.rest (mark_added a m)

  -- by the statement that is worked, and how far its full expression has come
  abbrev pub transition_in : is.Stmt-F Stmt Case → ControlState → Progress (Option Value) → Transition
  transition_in x a (Waits action) = Performs action
  transition_in x a (Traps ms) = Aborts
  transition_in x a (Known None ms) = Aborts
  transition_in x a (Known (Some v) ms) = if is_return x then Returns v else Jumps (jump_to a (next_continuation x a.here a.around v))

  abbrev pub transition_at : List Stmt → ControlState → Transition
  transition_at [] a = FallsOff
  transition_at (s ∷ rest) a = transition_in (out-Stmt s) a (progress_there a (worked (out-Stmt s) a.here.phase))

  -- the next transition
  abbrev pub transition : ControlState → Transition
  transition a = transition_at a.here.rest a
