pub mod Actions
pub mod Calls
pub mod OthersWrite
pub mod Performs
