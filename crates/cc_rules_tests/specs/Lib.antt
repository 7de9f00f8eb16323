pub mod Forms
pub mod Passing
pub mod Reads
pub mod Tested
pub mod Trials
