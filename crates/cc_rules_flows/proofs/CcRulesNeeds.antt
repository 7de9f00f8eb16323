-- Lemmas of cc_rules_needs, passed on.
pub use Rattle.cc_rules_needs.proofs.AtPoint
pub use Rattle.cc_rules_needs.proofs.ByParts
pub use Rattle.cc_rules_needs.proofs.Others
pub use Rattle.cc_rules_needs.proofs.PutLaws
pub use Rattle.cc_rules_needs.proofs.Puts
pub use Rattle.cc_rules_needs.proofs.RaisedPoints
pub use Rattle.cc_rules_needs.proofs.Through
pub use Rattle.cc_rules_needs.proofs.Zips
