pub mod Names
pub mod Numbers
pub mod Structures
pub mod Units
