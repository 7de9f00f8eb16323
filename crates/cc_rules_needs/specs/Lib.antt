pub mod Flowing
pub mod Needs
pub mod Points
pub mod Raised
