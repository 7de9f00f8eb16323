pub mod Definitions
pub mod Handlers
