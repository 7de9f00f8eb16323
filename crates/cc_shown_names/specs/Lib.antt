pub mod Bodies
pub mod Definitions
pub mod Devices
pub mod Functions
pub mod Names
pub mod Numbers
pub mod Parts
pub mod States
