pub mod Assigned
pub mod Modes
