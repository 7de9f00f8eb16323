pub mod Mentions
pub mod Things
pub mod View
