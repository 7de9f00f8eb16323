pub mod Linked
pub mod Renumbering
pub mod Units
