pub mod Comparison
pub mod Relation
pub mod RelationBack
pub mod Simulated
