pub mod Copies
pub mod NextLemmas
pub mod Onward
pub mod PassingLemmas
