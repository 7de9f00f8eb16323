pub mod Arrivals
pub mod Driven
pub mod Inputs
pub mod Outcomes
pub mod Trace
