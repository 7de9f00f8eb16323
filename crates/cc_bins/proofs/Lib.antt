pub mod Kept
pub mod Once
pub mod Orders
pub mod PackedLaws
pub mod Ready
pub mod Rooms
