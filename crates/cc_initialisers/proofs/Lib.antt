pub mod Characters
mod Examples
pub mod Filling
pub mod Forms
pub mod Layers
pub mod Objects
pub mod Places
pub mod Sizes
pub mod Started
pub mod Steps
