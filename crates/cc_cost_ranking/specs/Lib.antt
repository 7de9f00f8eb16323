pub mod Estimates
pub mod Examples
pub mod Priced
pub mod Ranking
