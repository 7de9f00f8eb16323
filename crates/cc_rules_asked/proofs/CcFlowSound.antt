-- Lemmas of cc_flow_sound, passed on.
pub use Rattle.cc_rules.proofs.CcFlowSound.Numbered
