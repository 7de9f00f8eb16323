pub mod Bounds
pub mod Placed
pub mod Sizing
pub mod CcLex
pub mod CcScopes
pub mod CcSyntax
