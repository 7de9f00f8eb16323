pub mod Listing
pub mod Locals
pub mod Over
pub mod Rows
