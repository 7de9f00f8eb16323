pub mod Addresses
pub mod Constants
pub mod Relation
pub mod Converging
pub mod Steps
pub mod Lowered
