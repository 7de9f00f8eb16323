-- Lemmas of cc_cells, passed on.
pub use Rattle.cc_steps.proofs.CcCells.CountLemmas
