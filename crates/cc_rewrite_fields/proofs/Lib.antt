pub mod ArrayLemmas
pub mod FieldLemmas
pub mod OperatorLemmas
