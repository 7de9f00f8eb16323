-- Lemmas of cc_eval, passed on.
pub use Rattle.cc_steps.proofs.CcEval.Links
pub use Rattle.cc_steps.proofs.CcEval.MarkLemmas
pub use Rattle.cc_steps.proofs.CcEval.MeaningUses
pub use Rattle.cc_steps.proofs.CcEval.Opened
pub use Rattle.cc_steps.proofs.CcEval.Uses
pub use Rattle.cc_steps.proofs.CcEval.Works
