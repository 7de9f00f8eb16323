pub mod Renaming
pub mod Shown
