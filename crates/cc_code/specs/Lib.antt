pub mod Codes
pub mod Codings
pub mod Members
