pub mod Asked
pub mod Called
pub mod Formed
pub mod Same
