pub mod ListLemmas
pub mod ConditionLemmas
pub mod StatementRules
