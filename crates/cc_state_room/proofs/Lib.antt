pub mod Falling
pub mod Pairs
pub mod Rising
pub mod Bounds
