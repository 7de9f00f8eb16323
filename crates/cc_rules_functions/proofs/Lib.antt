pub mod Ends
pub mod Gets
