-- Lemmas of cc_rules_needs, passed on.
pub use Rattle.cc_rules_flows.proofs.CcRulesNeeds.AtPoint
pub use Rattle.cc_rules_flows.proofs.CcRulesNeeds.ByParts
pub use Rattle.cc_rules_flows.proofs.CcRulesNeeds.Others
pub use Rattle.cc_rules_flows.proofs.CcRulesNeeds.PutLaws
pub use Rattle.cc_rules_flows.proofs.CcRulesNeeds.Puts
pub use Rattle.cc_rules_flows.proofs.CcRulesNeeds.RaisedPoints
pub use Rattle.cc_rules_flows.proofs.CcRulesNeeds.Through
pub use Rattle.cc_rules_flows.proofs.CcRulesNeeds.Zips
