-- Lemmas of cc_steps, passed on.
pub use Rattle.cc_steps.proofs.CellsApart
pub use Rattle.cc_steps.proofs.MarkLemmas
pub use Rattle.cc_steps.proofs.RunLaws
pub use Rattle.cc_steps.proofs.ScalarPlaces
pub use Rattle.cc_steps.proofs.StartLemmas
