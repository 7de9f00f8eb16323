pub mod Gatherings
pub mod Ranges
pub mod Results
pub mod laws
pub mod Rungs
