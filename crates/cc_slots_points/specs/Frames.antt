-- The registers of functions, as the code has them.
use Rattle.std.specs.Prelude.{◌≡◌, ◌<◌, ◌≤◌, ◌^◌, ℕ, List, length, Some, slice_get}
use Rattle.cc_program.specs.declared.func.Func.{Func}
use Rattle.cc_state_points.specs.CcRegisters.Kept.{AreKept}
use Rattle.cc_slots_points.specs.declared.frames.Frame.{Frame}
use Rattle.cc_state_points.specs.CcStateKeys.Tracked.{registers as all_registers}

-- no more locals than ids name
abbrev pub HaveFewLocals : List Func → Type 0
HaveFewLocals funcs = (id : ℕ) (f : Func) → slice_get funcs id ≡ Some f → length f.locals < 2 ^ 32

pub record IsFrame (f : Func) (frame : Frame) : Type 0 where
  pub kept : AreKept f frame.kept
  pub registers : frame.registers ≡ all_registers f

pub record AreFrames (funcs : List Func) (frames : List Frame) : Type 0 where
  pub enough : length funcs ≤ length frames
  pub each : (id : ℕ) (f : Func) (frame : Frame) → slice_get funcs id ≡ Some f → slice_get frames id ≡ Some frame → IsFrame f frame
