pub mod Counts
pub mod Orders
pub mod Pairs
pub mod Places
pub mod Reservations
pub mod Tables
pub mod Texts
pub mod TemporaryNames
