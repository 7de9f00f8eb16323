pub mod Examples
pub mod Packed
pub mod Placing
pub mod Search
