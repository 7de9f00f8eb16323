pub mod Behind
pub mod Constructs
pub mod FirstFault
pub mod Parts
