-- Lemmas of cc_eval, passed on.
pub use Rattle.cc_state_values.proofs.CcEval.Links
pub use Rattle.cc_state_values.proofs.CcEval.MeaningUses
pub use Rattle.cc_state_values.proofs.CcEval.Opened
pub use Rattle.cc_state_values.proofs.CcEval.Works
