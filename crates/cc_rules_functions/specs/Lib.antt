pub mod Ends
pub mod Functions
