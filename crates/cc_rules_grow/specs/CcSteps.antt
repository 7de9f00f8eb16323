-- Definitions of cc_steps, passed on.
pub use Rattle.cc_rules.specs.CcSteps.State
pub use Rattle.cc_rules.specs.CcSteps.Turn
