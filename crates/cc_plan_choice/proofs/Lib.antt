pub mod Bytes
pub mod Chosen
pub mod FateCases
pub mod Numbers
pub mod Orders
pub mod Taken
pub mod Wanted
pub mod Words
