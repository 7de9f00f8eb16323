pub mod Costs
pub mod Counts
pub mod Guards
pub mod Sites
