-- Lemmas of cc_rules_flows, passed on.
pub use Rattle.cc_rules_flows.proofs.CaseBodies
pub use Rattle.cc_rules_flows.proofs.KnownLemmas
pub use Rattle.cc_rules_flows.proofs.Paths
