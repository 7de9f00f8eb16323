pub mod Each
pub mod PairCounts
pub mod Smallness
