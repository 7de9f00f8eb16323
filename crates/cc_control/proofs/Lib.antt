pub mod Begun
pub mod CaseLemmas
pub mod LevelLemmas
