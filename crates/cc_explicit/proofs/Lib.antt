pub mod Lists
pub mod Reach
pub mod Walk
