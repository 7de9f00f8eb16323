pub mod Ascending
pub mod Settled
pub mod SlotLemmas
