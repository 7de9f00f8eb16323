-- Lemmas of cc_steps, passed on.
pub use Rattle.cc_rules_flows.proofs.CcSteps.StartLemmas
