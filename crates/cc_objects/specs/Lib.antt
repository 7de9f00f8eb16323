pub mod Categories
pub mod Linked
pub mod Names
pub mod Tags
pub mod Types
pub mod Values
pub mod CcInitial
