pub mod Behind
pub mod Constructs
pub mod FirstFaults
pub mod Parts
