pub mod Examples
pub mod NameSets
pub mod Numbers
pub mod Starts
pub mod Takings
pub mod Wishes
