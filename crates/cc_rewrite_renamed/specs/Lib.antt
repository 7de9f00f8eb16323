pub mod Names
pub mod Objects
pub mod Orders
pub mod Renaming
pub mod Statements
