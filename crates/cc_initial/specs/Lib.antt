pub mod Addresses
pub mod View
