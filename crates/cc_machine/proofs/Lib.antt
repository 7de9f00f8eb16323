pub mod Taken
pub mod Turned
pub mod Waits
