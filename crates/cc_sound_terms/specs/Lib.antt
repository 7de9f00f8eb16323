pub mod Growing
pub mod Knowing
pub mod Standing
pub mod Typing
pub mod Ranges
pub mod Ordered
pub mod Closings
pub mod Behind
