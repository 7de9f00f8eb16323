pub mod Candidates
pub mod Index
pub mod Legal
pub mod Legality
pub mod Lookup
pub mod Parts
pub mod Plans
pub mod Short
