pub mod Verdicts
pub mod Opened
pub mod Conversions
pub mod Operators
pub mod Choices
pub mod Assignments
pub mod Designators
