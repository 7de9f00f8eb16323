pub mod Members
pub mod Orders
pub mod RenamedMembers
pub mod Rewritten
