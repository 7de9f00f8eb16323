pub mod Places
pub mod Prefixes
