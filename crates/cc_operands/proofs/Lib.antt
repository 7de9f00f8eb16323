pub mod Ranges
pub mod Moves
pub mod FirstTypes
pub mod CcLex
pub mod CcSyntax
pub mod CcTyped
