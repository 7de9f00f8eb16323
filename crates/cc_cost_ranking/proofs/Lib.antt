pub mod LawLemmas
pub mod OneOrder
pub mod Orders
