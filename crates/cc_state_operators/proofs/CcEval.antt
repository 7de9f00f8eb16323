-- Lemmas of cc_eval, passed on.
pub use Rattle.cc_eval.proofs.Links
pub use Rattle.cc_eval.proofs.MeaningUses
pub use Rattle.cc_eval.proofs.Opened
pub use Rattle.cc_eval.proofs.Works
