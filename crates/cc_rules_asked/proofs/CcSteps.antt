-- Lemmas of cc_steps, passed on.
pub use Rattle.cc_rules.proofs.CcSteps.StartLemmas
