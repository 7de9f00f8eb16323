pub mod Added
pub mod Copies
pub mod Standings
pub mod Stands
