-- Lemmas of cc_flow_sound, passed on.
pub use Rattle.cc_rules_flows.proofs.CcFlowSound.Opened
pub use Rattle.cc_rules_flows.proofs.CcFlowSound.Segments
