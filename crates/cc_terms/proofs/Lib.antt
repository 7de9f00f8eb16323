pub mod Arms
pub mod Derived
pub mod InTurn
pub mod CcLex
pub mod CcScopes
pub mod CcSyntax
