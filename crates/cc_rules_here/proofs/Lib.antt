pub mod ActLemmas
pub mod HereLemmas
pub mod Marked
pub mod Owned
pub mod Room
