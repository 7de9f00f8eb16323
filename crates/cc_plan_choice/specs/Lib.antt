pub mod Choice
pub mod Fates
