-- Lemmas of cc_rules_needs, passed on.
pub use Rattle.cc_rules.proofs.CcRulesNeeds.AtPoint
pub use Rattle.cc_rules.proofs.CcRulesNeeds.ByParts
pub use Rattle.cc_rules.proofs.CcRulesNeeds.Others
pub use Rattle.cc_rules.proofs.CcRulesNeeds.PutLaws
pub use Rattle.cc_rules.proofs.CcRulesNeeds.RaisedPoints
pub use Rattle.cc_rules.proofs.CcRulesNeeds.Through
