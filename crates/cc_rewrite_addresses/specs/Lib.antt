pub mod Behind
pub mod Holds
pub mod Takes
