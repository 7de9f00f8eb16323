pub mod CellLemmas
pub mod CountLemmas
pub mod ScalarLemmas
pub mod StructureLemmas
