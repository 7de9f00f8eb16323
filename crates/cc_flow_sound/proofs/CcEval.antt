-- Lemmas of cc_eval, passed on.
pub use Rattle.cc_states.proofs.CcEval.Links
pub use Rattle.cc_states.proofs.CcEval.MarkLemmas
pub use Rattle.cc_states.proofs.CcEval.MeaningUses
pub use Rattle.cc_states.proofs.CcEval.Opened
pub use Rattle.cc_states.proofs.CcEval.Uses
pub use Rattle.cc_states.proofs.CcEval.Works
