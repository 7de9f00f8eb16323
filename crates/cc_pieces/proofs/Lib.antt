pub mod PieceLemmas
pub mod ListLemmas
