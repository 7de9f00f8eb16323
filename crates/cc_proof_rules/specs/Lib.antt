pub mod Arrivals
pub mod Operands
pub mod Outcomes
