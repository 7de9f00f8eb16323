-- Definitions of cc_steps, passed on.
pub use Rattle.cc_states.specs.CcSteps.State
pub use Rattle.cc_states.specs.CcSteps.Step
pub use Rattle.cc_states.specs.CcSteps.Turn
