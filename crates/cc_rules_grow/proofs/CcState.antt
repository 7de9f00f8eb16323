-- Lemmas of cc_state, passed on.
pub use Rattle.cc_state_points.proofs.CcState.CellTypes
pub use Rattle.cc_state_points.proofs.CcState.Lists
pub use Rattle.cc_state_points.proofs.CcState.Numbered
pub use Rattle.cc_state_points.proofs.CcState.Sets
