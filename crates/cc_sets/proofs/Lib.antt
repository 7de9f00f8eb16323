pub mod Adding
pub mod Bounds
pub mod Exact
pub mod Gathering
pub mod LeastRange
pub mod Values
