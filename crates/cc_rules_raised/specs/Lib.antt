pub mod Completed
pub mod OfAddresses
pub mod Slots
pub mod Steps
