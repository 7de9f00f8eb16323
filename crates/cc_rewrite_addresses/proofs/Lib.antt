pub mod Behind
pub mod Expressions
pub mod Inside
pub mod Operators
pub mod Safe
pub mod Spots
pub mod Starts
pub mod Steps
