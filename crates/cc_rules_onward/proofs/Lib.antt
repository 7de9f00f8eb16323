pub mod FitLemmas
pub mod Labels
pub mod Untested
