pub mod Disagreeing
pub mod Loops
