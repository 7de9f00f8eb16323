pub mod Loops
pub mod Positions
pub mod Sources
pub mod Unique
pub mod AtMostOne
