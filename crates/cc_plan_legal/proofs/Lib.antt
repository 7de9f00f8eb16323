pub mod FieldLemmas
pub mod GroupLemmas
pub mod InWord
pub mod IndexLemmas
pub mod Joins
pub mod LegalLaws
pub mod Options
