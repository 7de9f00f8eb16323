pub mod DoSteps
pub mod Evaluates
pub mod ResidueLemmas
