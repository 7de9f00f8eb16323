-- Lemmas of cc_rules_flows, passed on.
pub use Rattle.cc_rules.proofs.CcRulesFlows.ShapeLemmas
