-- Lemmas of cc_state_keys, passed on.
pub use Rattle.cc_rules.proofs.CcStateKeys.FactCounts
pub use Rattle.cc_rules.proofs.CcStateKeys.Grown
pub use Rattle.cc_rules.proofs.CcStateKeys.Orders
pub use Rattle.cc_rules.proofs.CcStateKeys.Typed
