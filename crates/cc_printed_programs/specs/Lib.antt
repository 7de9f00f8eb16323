pub mod Ascending
pub mod Kept
pub mod Numbers
pub mod Returning
pub mod Units
