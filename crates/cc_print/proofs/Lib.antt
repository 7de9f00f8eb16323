pub mod AnyLemmas
pub mod FillerLemmas
