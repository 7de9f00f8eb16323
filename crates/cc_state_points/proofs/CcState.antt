-- Lemmas of cc_state, passed on.
pub use Rattle.cc_state.proofs.CellTypes
pub use Rattle.cc_state.proofs.Contexts
pub use Rattle.cc_state.proofs.KeyKinds
pub use Rattle.cc_state.proofs.Lists
pub use Rattle.cc_state.proofs.Numbered
pub use Rattle.cc_state.proofs.Sets
