pub mod Branches
pub mod CallRules
pub mod PointRules
pub mod Refined
pub mod Sets
pub mod StatementRules
