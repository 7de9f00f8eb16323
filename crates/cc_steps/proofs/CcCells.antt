-- Lemmas of cc_cells, passed on.
pub use Rattle.cc_cells.proofs.CountLemmas
pub use Rattle.cc_cells.proofs.StructureLemmas
