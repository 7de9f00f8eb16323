-- Definitions of cc_steps, passed on.
pub use Rattle.cc_rules_flows.specs.CcSteps.State
pub use Rattle.cc_rules_flows.specs.CcSteps.Turn
pub use Rattle.cc_rules_flows.specs.CcSteps.Whole
