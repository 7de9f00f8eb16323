-- Results that were given and are not written yet: between a call that has returned, or an intrinsic that was done, and the write of the
-- register to which the statement assigns.
use Rattle.std.specs.Prelude.{ℕ, ◌==◌, Bool, true, false, Option, Some, None, if◌then◌else◌}
use Rattle.cc_flow_sound.specs.CcCells.Cells.{scalar_in}
use Rattle.cc_flow_sound.specs.CcEval.declared.action.Action.{Action}
use Rattle.cc_flow_sound.specs.CcEval.declared.action.Action.TheVariants.{Read, Write, Choose, Call, Flag, Save}
use Rattle.cc_flow_sound.specs.CcEval.Progress.{Progress, Waits, Known, Traps}
use Rattle.cc_program.specs.declared.expr.Expr.{Expr}
use Rattle.cc_program.specs.declared.program.Program.{Program}
use Rattle.cc_program.specs.declared.value.Cell.{Cell}
use Rattle.cc_program.specs.declared.value.Cell.TheVariants as cell
use Rattle.cc_program.specs.declared.value.Root.TheVariants as root
use Rattle.cc_program.specs.declared.value.Value.{Value}
use Rattle.cc_flow_sound.specs.CcStates.States.{expression_of}
use Rattle.cc_flow_sound.specs.CcSteps.State.{Active}
use Rattle.cc_flow_sound.specs.CcSteps.Step.{progress_of}
use Rattle.cc_flow_sound.specs.CcSyntax.Forms.{Form, AssignForm, CallForm, IntrinsicForm, ConstantForm, FunctionForm, LoadForm, OtherForm, form_of}

-- a call or an intrinsic
abbrev pub is_given : Form → Bool
is_given (CallForm g args) = true
is_given (IntrinsicForm a) = true
is_given (AssignForm a e) = false
is_given FunctionForm = false
is_given (ConstantForm n t) = false
is_given (LoadForm a) = false
is_given OtherForm = false

abbrev pub assigns_result : Form → Bool
assigns_result (AssignForm a e) = is_given (form_of e)
assigns_result (CallForm g args) = false
assigns_result (IntrinsicForm a) = false
assigns_result FunctionForm = false
assigns_result (ConstantForm n t) = false
assigns_result (LoadForm a) = false
assigns_result OtherForm = false

abbrev pub has_result : Option Expr → Bool
has_result None = false
has_result (Some e) = assigns_result (form_of e)

-- the local to which a write is, and the value
abbrev pub cell_written : Cell → Value → Option (ℕ × Value)
cell_written (cell.Device d) x = None
cell_written (cell.At (root.Static i) path) x = None
cell_written (cell.At (root.Auto number g r) path) x = Some (r, x)

abbrev pub local_written : Action → Option (ℕ × Value)
local_written (Write at is_event x) = cell_written at x
local_written (Read at manner) = None
local_written (Choose b) = None
local_written (Call callee args) = None
local_written (Flag on) = None
local_written Save = None

abbrev pub written_next : Progress (Option Value) → Option (ℕ × Value)
written_next (Waits action) = local_written action
written_next (Known x ms) = None
written_next (Traps ms) = None

-- the register that has still to get the result of the call or intrinsic that its statement has done, and that result
abbrev pub pending : Program → Active → Option (ℕ × Value)
pending p a = if has_result (expression_of a) then written_next (progress_of p a (expression_of a)) else None

-- what a register holds, once such a result is written
abbrev pub value_in : Option (ℕ × Value) → Active → ℕ → Option (Option Value)
value_in None a r = scalar_in a.locals r 0
value_in (Some result) a r = if r == result.0 then Some (Some result.1) else scalar_in a.locals r 0
