pub mod HomeLemmas
pub mod ScalarLemmas
