pub mod Kept
pub mod Order
pub mod Members
pub mod Sets
pub mod Moves
pub mod Abstract
pub mod laws
