pub mod Sums
pub mod Saved
