-- Definitions of cc_steps, passed on.
pub use Rattle.cc_flow_sound.specs.CcSteps.State
pub use Rattle.cc_flow_sound.specs.CcSteps.Step
pub use Rattle.cc_flow_sound.specs.CcSteps.Turn
pub use Rattle.cc_flow_sound.specs.CcSteps.Whole
