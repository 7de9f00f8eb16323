pub mod Actives
pub mod Controls
pub mod Events
pub mod Orders
pub mod Starts
pub mod Steps
pub mod Turns
pub mod Whole
