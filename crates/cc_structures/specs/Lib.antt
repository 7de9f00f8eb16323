pub mod Structures
pub mod View
pub mod Words
pub mod Looks
pub mod Classes
pub mod Refined
pub mod Ordered
