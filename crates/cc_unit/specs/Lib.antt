pub mod Renumbered
pub mod Mentioned
pub mod Entries
