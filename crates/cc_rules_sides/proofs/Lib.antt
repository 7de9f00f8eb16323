pub mod CellLemmas
pub mod Emptied
pub mod LocalLemmas
pub mod RowLemmas
pub mod Unique
