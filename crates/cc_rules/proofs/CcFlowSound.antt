-- Lemmas of cc_flow_sound, passed on.
pub use Rattle.cc_rules_flows.proofs.CcFlowSound.Normal
pub use Rattle.cc_rules_flows.proofs.CcFlowSound.Numbered
pub use Rattle.cc_rules_flows.proofs.CcFlowSound.Opened
pub use Rattle.cc_rules_flows.proofs.CcFlowSound.Places
pub use Rattle.cc_rules_flows.proofs.CcFlowSound.Reached
pub use Rattle.cc_rules_flows.proofs.CcFlowSound.Starts
