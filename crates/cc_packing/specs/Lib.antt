pub mod Asked
pub mod Ends
pub mod Headline
pub mod Outputs
pub mod Written
