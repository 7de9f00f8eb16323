pub mod Equations
mod Gives
pub mod Parts
pub mod CcInitialisers
pub mod CcLex
pub mod CcScopes
pub mod CcSyntax
pub mod CcTerms
