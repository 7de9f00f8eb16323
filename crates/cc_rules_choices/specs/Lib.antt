pub mod Choices
pub mod Sided
pub mod Starts
