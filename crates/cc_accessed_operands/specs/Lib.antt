pub mod Accessed
pub mod Kept
