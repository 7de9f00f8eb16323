pub mod DeviceLemmas
pub mod NormalLemmas
