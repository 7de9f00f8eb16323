-- Lemmas of cc_state_values_grow, passed on.
pub use Rattle.cc_state_values_grow.proofs.Growing
pub use Rattle.cc_state_values_grow.proofs.Images
pub use Rattle.cc_state_values_grow.proofs.Leading
