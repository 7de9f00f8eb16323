pub mod Accounts
pub mod Cycle
pub mod Founds
pub mod Specifiers
pub mod Terms
pub mod Trees
pub mod Types
pub mod Values
