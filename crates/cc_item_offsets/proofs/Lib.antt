pub mod Ends
pub mod Ascend
