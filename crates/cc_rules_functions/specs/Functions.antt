-- The functions of a program, as the code has them for calls.
use Rattle.std.specs.Prelude.{◌≡◌, ◌<◌, ◌^◌, ◌==◌, ◌&&◌, not, ℕ, List, length, Some, slice_get}
use Rattle.cc_rules_flows.specs.CcFlowSound.Moves.{entry}
use Rattle.cc_program.specs.declared.program.Program.{Program}
use Rattle.cc_rules_functions.specs.declared.functions.Function.{Function}
use Rattle.cc_rules_flows.specs.Nexts.{exit_of}
use Rattle.cc_rules_flows.specs.CcStateKeys.Tracked.{registers}
use Rattle.cc_rules_flows.specs.CcSteps.Step.{gives_nothing}

pub record IsFunctionOf (p : Program) (id : ℕ) (f : Function) : Type 0 where
  pub func : slice_get p.funcs id ≡ Some f.func.now
  pub entry : f.entry ≡ entry p id
  pub exit : f.exit ≡ exit_of p id f.func.now
  pub registers : f.registers ≡ registers f.func.now
  pub few : length f.registers < 2 ^ 32
  pub zero : f.gives_zero ≡ (id == p.main && not (gives_nothing (Some f.func.now)))

-- each by its id
pub record AreFunctionsOf (p : Program) (list : List Function) : Type 0 where
  pub count : length list ≡ length p.funcs
  pub each : (id : ℕ) (f : Function) → slice_get list id ≡ Some f → IsFunctionOf p id f
