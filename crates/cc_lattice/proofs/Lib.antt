pub mod IntValues
pub mod Joins
pub mod Parts
