-- Lemmas of cc_state_values_grow, passed on.
pub use Rattle.cc_state.proofs.CcStateValuesGrow.Growing
pub use Rattle.cc_state.proofs.CcStateValuesGrow.Images
pub use Rattle.cc_state.proofs.CcStateValuesGrow.Leading
