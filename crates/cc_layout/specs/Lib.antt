pub mod Examples
pub mod Seats
