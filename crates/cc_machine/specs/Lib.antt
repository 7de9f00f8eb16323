pub mod Taken
pub mod View
pub mod Waits
