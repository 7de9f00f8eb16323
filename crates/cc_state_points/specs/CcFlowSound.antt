-- Definitions of cc_flow_sound, passed on.
pub use Rattle.cc_rules_flows.specs.CcFlowSound.Moves
pub use Rattle.cc_rules_flows.specs.CcFlowSound.Sites
pub use Rattle.cc_rules_flows.specs.CcFlowSound.Statements
