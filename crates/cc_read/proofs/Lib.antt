pub mod Causes
pub mod Identifiers
pub mod Refused
pub mod TextsLeft
