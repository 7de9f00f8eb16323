pub mod Bounds
pub mod Entering
