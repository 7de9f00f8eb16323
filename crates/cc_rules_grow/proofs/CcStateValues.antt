-- Lemmas of cc_state_values, passed on.
pub use Rattle.cc_rules.proofs.CcStateValues.Parts
pub use Rattle.cc_rules.proofs.CcStateValues.Rules
pub use Rattle.cc_rules.proofs.CcStateValues.Same
