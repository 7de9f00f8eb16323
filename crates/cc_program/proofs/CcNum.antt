-- Lemmas of cc_num, passed on.
pub use Rattle.cc_num.proofs.Conversions
pub use Rattle.cc_num.proofs.DivisionLaws
pub use Rattle.cc_num.proofs.Exact
pub use Rattle.cc_num.proofs.PromotionLaws
pub use Rattle.cc_num.proofs.Residues
pub use Rattle.cc_num.proofs.ResultLaws
