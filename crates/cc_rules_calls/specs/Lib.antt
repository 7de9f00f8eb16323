pub mod Backs
pub mod Called
pub mod Here
