pub mod Facts
pub mod Levels
pub mod Orders
pub mod laws
