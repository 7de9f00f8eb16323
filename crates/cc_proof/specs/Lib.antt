pub mod Broken
pub mod Denied
