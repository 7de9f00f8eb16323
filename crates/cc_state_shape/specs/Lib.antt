pub mod Empty
pub mod Lowest
