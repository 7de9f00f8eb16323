pub mod Behind
pub mod Layers
pub mod Opened
