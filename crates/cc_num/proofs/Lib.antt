pub mod Residues
pub mod Conversions
pub mod Patterns
pub mod PromotionLaws
pub mod Exact
pub mod ResultLaws
pub mod DivisionLaws
pub mod ComplementLaws
