pub mod Bodies
pub mod Laws
pub mod Refused
pub mod CcInitialisers
pub mod CcLex
pub mod CcScopes
pub mod CcSyntax
pub mod CcTypedBodies
