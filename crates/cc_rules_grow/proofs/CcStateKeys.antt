-- Lemmas of cc_state_keys, passed on.
pub use Rattle.cc_rules.proofs.CcStateKeys.Typed
