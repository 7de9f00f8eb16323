pub mod Made
pub mod Branches
