-- By what reports name registers and tracked cells.
use Rattle.std.specs.Prelude.{◌≡◌, ◌<◌, ◌^◌, ℕ, length, Some, slice_get}
use Rattle.cc_rules_asked.specs.CcFlow.Points.{flow_of}
use Rattle.cc_program.specs.declared.func.Func.{Func}
use Rattle.cc_rules_texts.specs.declared.names.Names.{Names}
use Rattle.cc_rules_asked.specs.CcStateKeys.Tracked.{tracked as tracked_of}

-- the points and the tracked cells are the program's, whose functions have numbered locals
pub record AreNames (names : Names) : Type 0 where
  pub points : names.flow.now ≡ flow_of names.program.now
  pub tracked : names.tracked.now ≡ tracked_of names.program.now
  pub few : (id : ℕ) (f : Func) → slice_get names.program.now.funcs id ≡ Some f → length f.locals < 2 ^ 32
