-- Lemmas of cc_eval, passed on.
pub use Rattle.cc_state_operators.proofs.CcEval.Links
pub use Rattle.cc_state_operators.proofs.CcEval.MeaningUses
pub use Rattle.cc_state_operators.proofs.CcEval.Opened
pub use Rattle.cc_state_operators.proofs.CcEval.Works
