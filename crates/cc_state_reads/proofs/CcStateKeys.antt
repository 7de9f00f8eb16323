-- Lemmas of cc_state_keys, passed on.
pub use Rattle.cc_state_keys.proofs.FactCounts
pub use Rattle.cc_state_keys.proofs.Grown
pub use Rattle.cc_state_keys.proofs.Orders
pub use Rattle.cc_state_keys.proofs.PlaceTypes
pub use Rattle.cc_state_keys.proofs.Typed
