pub mod Counted
pub mod Flags
pub mod Groups
pub mod IdentitySets
pub mod OneMore
pub mod Puts
pub mod SameIdentity
