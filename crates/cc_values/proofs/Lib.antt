pub mod IndexLemmas
pub mod PathLemmas
