pub mod Renumbered
pub mod Items
pub mod Units
pub mod Linked
pub mod Programs
