pub mod Spaces
pub mod Cases
pub mod Leaves
pub mod Functions
