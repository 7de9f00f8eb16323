pub mod DrawLemmas
pub mod Parts
