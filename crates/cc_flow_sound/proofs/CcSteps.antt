-- Lemmas of cc_steps, passed on.
pub use Rattle.cc_states.proofs.CcSteps.CellsApart
pub use Rattle.cc_states.proofs.CcSteps.MarkLemmas
pub use Rattle.cc_states.proofs.CcSteps.StartLemmas
