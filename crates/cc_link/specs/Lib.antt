pub mod Linked
pub mod Kept
pub mod Parts
pub mod Tells
